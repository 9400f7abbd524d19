-- The frame that stands in front of what is left is the next one.
use Rattle.std.proofs.Common.{◌≡◌, ℕ, ◌+◌, ◌-◌, List, ◌∷◌, length, drop, sym, ap, ◌∙◌, arith, drop-drop}
use Rattle.arrivals.specs.Frames.{Found}
use Rattle.arrivals.specs.Runs.{frames_of, taken}
use Rattle.arrivals.proofs.Splits.{split_some, first_found, taken_first}
use Rattle.arrivals.proofs.frames.next_frame.Goals as goal

pub returns-in-Some-clause-moved : goal.returns-in-Some-clause-moved
returns-in-Some-clause-moved c =
    let k = c.skip_groups-left.ensures in
    let s = split_some c.skip_groups-left.result.now (c.in-Some.frame.now, c.in-Some.field-0-1.now) c.in-Some.ensures.parts in
    let found = first_found c.args.level _ _ _ s (k.first _ _ c.in-Some.ensures.parts) in
    let far = ap (λ (f : Found). f.moved) found in
    omega (arith, k.moved, far)

pub returns-in-Some-clause-frame : goal.returns-in-Some-clause-frame
returns-in-Some-clause-frame c =
    let k = c.skip_groups-left.ensures in
    let s = split_some c.skip_groups-left.result.now (c.in-Some.frame.now, c.in-Some.field-0-1.now) c.in-Some.ensures.parts in
    let found = first_found c.args.level _ _ _ s (k.first _ _ c.in-Some.ensures.parts) in
    sym (k.frame ∙ ap (λ (f : Found). f.frame) found)

pub returns-in-Some-clause-follows : goal.returns-in-Some-clause-follows
returns-in-Some-clause-follows c =
    let k = c.skip_groups-left.ensures in
    let bytes = c.args.bytes.now in
    let left = c.skip_groups-left.result.now in
    let frame = c.in-Some.frame.now in
    let s = split_some left (frame, c.in-Some.field-0-1.now) c.in-Some.ensures.parts in
    let first = taken_first c.args.level left frame _ s (k.first _ _ c.in-Some.ensures.parts) in
    let passed = length bytes - length left in
    let far : passed + 2 + length frame ≡ passed + (2 + length frame) = omega arith in
    let rest = ap (drop (2 + length frame)) k.left ∙ drop-drop (2 + length frame) passed bytes in
    λ _. rw far (k.same ∙ (first ∙ ap (λ (xs : List ℕ). frame ∷ taken c.args.level (frames_of xs)) rest))
