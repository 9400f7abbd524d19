-- One turn changes its own entry.
use Rattle.std.proofs.Common.{false, set, sym, ap, ◌∙◌, arith}
use Rattle.std.proofs.lemmas.List.Edits.{map_over_more}
use Rattle.marks.proofs.unhand_all.Goals as goal

pub loop-x-preserved : goal.loop-x-preserved
loop-x-preserved g c =
    let f = g.T.Marked.remarked false in
    let l = c.loop-x in
    ap (set l.x-items l.x-index) (c.mark.ensures ∙ ap f (sym c.x-item.is))
    ∙ map_over_more f c.args.xs.now l.x-items l.x-index c.x-item.result (omega arith) l.invariant c.x-item.is
