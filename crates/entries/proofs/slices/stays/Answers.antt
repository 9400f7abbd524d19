-- One turn looks at the first of the entries that are left.
use Rattle.std.proofs.Common.{◌+◌, not, ◌||◌, eqb, drop, sym, refl, ap, ◌∙◌}
use Rattle.std.proofs.lemmas.List.{at_drop_all}
use Rattle.std.proofs.lemmas.Bool.{or_left}
use Rattle.compaction.specs.Compaction.{named, holds_default}
use Rattle.entries.proofs.Loops.{named_more}
use Rattle.entries.proofs.slices.stays.Goals as goal

pub loop-next-init : goal.loop-next-init
loop-next-init g c = refl

pub returns-then-is_same : goal.returns-then-is_same
returns-then-is_same g c =
    let k = g.K.EntryKind.kind in
    let e = c.args.first.now in
    let h = c.args.later.now in
    let here = or_left _ (named k e.name (drop (c.loop-next.next-index + 1) h)) (sym c.is_same.ensures ∙ c.if-is_same.true) in
    let is = sym (named_more k e.name _ h c.loop-next.next-index c.loop-next-test.true c.loop-next.invariant) ∙ here in
    sym (ap not (or_left _ (holds_default k e) is))

pub loop-next-preserved : goal.loop-next-preserved
loop-next-preserved g c =
    let k = g.K.EntryKind.kind in
    let e = c.args.first.now in
    let h = c.args.later.now in
    ap (λ b. b || named k e.name (drop (c.loop-next.next-index + 1) h)) c.if-is_same.ensures
    ∙ named_more k e.name _ h c.loop-next.next-index c.loop-next-test.true c.loop-next.invariant

pub returns : goal.returns
returns g c =
    let k = g.K.EntryKind.kind in
    let e = c.args.first.now in
    let h = c.args.later.now in
    let none = sym c.loop-next.invariant ∙ at_drop_all (named k e.name) h c.loop-next.next-index c.loop-next-test.false in
    ap (λ x. not (eqb e.content x)) c.default_content.ensures ∙ sym (ap (λ b. not (b || holds_default k e)) none)
