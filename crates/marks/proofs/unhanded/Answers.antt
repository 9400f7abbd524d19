-- One turn counts its own entry.
use Rattle.std.proofs.Common.{not, count_by, sym, ap, ◌∙◌, arith}
use Rattle.std.proofs.lemmas.List.{take_all}
use Rattle.std.proofs.lemmas.List.Sums.{count_by_more_yes, count_by_more_no}
use Rattle.marks.proofs.unhanded.Goals as goal
use Rattle.marks.proofs.unhanded.Goals.{then-not-is_handed, else-not-is_handed}

pub loop-x-preserved : goal.loop-x-preserved
loop-x-preserved g c =
    let h = g.T.Marked.handed in
    let e = ap h (sym c.x-item.is) ∙ sym c.is_handed.ensures in
    elim c.if-not-is_handed.branch [
      | then-not-is_handed w ↦ let m = count_by_more_yes (λ x. not (h x)) c.args.xs.now c.loop-x.x-index c.x-item.result (omega arith) (ap not (e ∙ w.if-not-is_handed.true)) in omega (arith, w.n-is)
      | else-not-is_handed w ↦ let m = count_by_more_no (λ x. not (h x)) c.args.xs.now c.loop-x.x-index c.x-item.result (omega arith) (ap not (e ∙ w.if-not-is_handed.false)) in omega (arith, w.n-is)
    ]

pub returns : goal.returns
returns g c = c.loop-x.invariant.1 ∙ ap (count_by (λ x. not (g.T.Marked.handed x))) (take_all c.loop-x.x-index c.args.xs.now (omega arith))
