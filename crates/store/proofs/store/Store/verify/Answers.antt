use Rattle.std.proofs.Common.{Bool, false, Result, sym, refl, ap, ◌∙◌}
use Rattle.store.proofs.InTurn.{near_finds}
use Rattle.std.specs.Result.{result_unwrap_or}
use Rattle.store.specs.declared.store.Store.{Store}
use Rattle.store.specs.declared.store.StoreError.{StoreError}
use Rattle.store.specs.Stores.{blocks_in}
use Rattle.store.proofs.Keeping.{looked}
use Rattle.store.proofs.Recorded.{fits}
use Rattle.store.proofs.store.Store.verify.Goals as goal

pub returns : goal.returns
returns c =
    let s = c.args.self.now in
    let t : Store = record { disk = c.has_blocks.new.medium; next = s.next } in
    let f = fits c.args.frame.now c.args.first (blocks_in s) c.in-Ok.record c.reaches.result c.reaches.ensures.count c.in-Ok.ensures in
    let w = looked s t c.args.first c.args.frame.now c.in-Ok.record c.blocks-2.result.now c.has_blocks.result f c.blocks-2.ensures (λ h. near_finds _ _ h c.has_blocks.ensures) in
    let e = c.unwrap_or.ensures ∙ ap (λ (r : Result Bool StoreError). result_unwrap_or r false) w.is in
    record { bytes = w.same; next = refl; found = ((λ z. w.found.0 (sym e ∙ z)), (λ z. e ∙ w.found.1 z)) }
