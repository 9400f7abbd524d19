-- Every mark is taken away.
use Rattle.queue.proofs.queue.Queue.unhand_all.Goals as goal
use Rattle.std.proofs.Common.{false, map, length, ap, ◌∙◌}
use Rattle.std.proofs.lemmas.List.{length-map}
use Rattle.arrayvec.proofs.ArrayVecLemmas.{items-with_items}
use Rattle.heads.specs.Heads.{remark}
use Rattle.heads.specs.Kept.{marked}
use Rattle.heads.specs.Laid.{laid}
use Rattle.heads.proofs.Laid.{laid_unmarked}

pub returns : goal.returns
returns c =
    let q = c.self.inside in
    let e = c.unhand_all.ensures ∙ ap (map (remark false)) c.deref_mut.ensures.value in
    let r = items-with_items q.heads c.unhand_all.new.xs (ap length e ∙ length-map q.heads.items (remark false)) in
    ap (λ hs. laid hs q.payloads) (r ∙ e) ∙ (laid_unmarked q.heads.items q.payloads ∙ ap (map (marked false)) c.self.view_is)
