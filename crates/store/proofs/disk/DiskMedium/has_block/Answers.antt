use Rattle.std.proofs.Common.{refl, sym, ◌∙◌, arith}
use Rattle.std.proofs.lemmas.Slice.Eq.{slice_eq-Decides}
use Rattle.std.proofs.lemmas.Bool.Decides.{Decides-eqb}
use Rattle.block.specs.Memories.{memory_of}
use Rattle.store.proofs.Asking.{read_back}
use Rattle.store.proofs.disk.DiskMedium.has_block.Goals as goal

pub returns-then-address-reaches : goal.returns-then-address-reaches
returns-then-address-reaches c = ((λ h. absurd (omega arith)), (λ h. (refl, refl)))

pub returns : goal.returns
returns c = (
  (λ h.
      let asked = c.command.ensures in
      let done = rw (asked.level, asked.kind, asked.address, asked.payload) at c.perform.ensures.performed in
      let back = read_back (memory_of c.args.self.now) (memory_of c.perform.new.self) _ _ 1 c.args.address _ refl h (omega arith) done c.perform.ensures.beyond in
      let d = slice_eq-Decides Decides-eqb _ _ _ c.eq.ensures in
      (c.eq.result, refl, back.same, ((λ t. sym back.bytes ∙ d.0 t), (λ e. d.1 (back.bytes ∙ e))))),
  (λ h. absurd (omega arith)),
)
