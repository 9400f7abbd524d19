use Rattle.std.proofs.Common.{◌≡◌, ◌+◌, ◌-◌, length, sym, ◌∙◌, arith}
use Rattle.std.proofs.lemmas.Bool.{and_left, and_right, ne_eqb}
use Rattle.arrivals.proofs.Splits.{split_some, split_once, found_later, taken_later, left_later}
use Rattle.arrivals.proofs.frames.+skip_groups.Goals as goal
use Rattle.arrivals.proofs.frames.+skip_groups.Goals.{else-level-eq0-via-then-level-eq0+else-is_group, else-level-eq0-via-else-level-eq0}

pub returns-then-is_group : goal.returns-then-is_group
returns-then-is_group t c =
    let next = c.skip_groups.ensures in
    let bytes = c.args.bytes.now in
    let frame = c.in-Some.frame.now in
    let rest = c.in-Some.rest.now in
    let left = c.skip_groups.result.now in
    let s = split_some bytes (frame, rest) c.in-Some.ensures.parts in
    let g = sym c.is_group.ensures ∙ c.if-is_group.true in
    let found = found_later c.args.level _ _ _ s c.if-level-eq0.true g in
    let far : length bytes - length left ≡ 2 + length frame + (length rest - length left) = omega (arith, s.whole, next.within) in
    record {
      moved = rw found (omega (arith, far, next.moved));
      frame = rw found next.frame;
      same = taken_later c.args.level _ _ _ s c.if-level-eq0.true g ∙ next.same;
      left = rw (far, left_later _ _ _ s (length rest - length left)) next.left;
      within = omega (arith, s.whole, next.within);
      first = next.first;
    }

pub returns-else-level-eq0-clause-first : goal.returns-else-level-eq0-clause-first
returns-else-level-eq0-clause-first t c =
    split_once c.args.level c.args.bytes.now c.in-Some.frame.now c.in-Some.rest.now c.in-Some.ensures.parts
    (elim c.else-level-eq0.branch [
      | else-level-eq0-via-then-level-eq0+else-is_group w ↦ and_right _ _ (sym w.is_group.ensures ∙ w.if-is_group.false)
      | else-level-eq0-via-else-level-eq0 w ↦ and_left _ _ (ne_eqb _ _ w.if-level-eq0.false)
    ])
