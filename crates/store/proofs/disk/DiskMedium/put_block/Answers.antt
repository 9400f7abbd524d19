use Rattle.std.proofs.Common.{refl, arith}
use Rattle.block.specs.Memories.{memory_of}
use Rattle.store.proofs.Asking.{written}
use Rattle.store.proofs.disk.DiskMedium.put_block.Goals as goal

pub returns-then-address-reaches : goal.returns-then-address-reaches
returns-then-address-reaches c = ((λ h. absurd (omega arith)), (λ h. (refl, refl)))

pub returns : goal.returns
returns c = (
  (λ h.
      let asked = c.command.ensures in
      let done = rw (asked.level, asked.kind, asked.address, asked.payload) at c.perform.ensures.performed in
      (refl, written (memory_of c.args.self.now) (memory_of c.perform.new.self) c.args.block.now _ _ 2 c.args.address _ refl (omega arith) h (omega arith) done c.perform.ensures.beyond)),
  (λ h. absurd (omega arith)),
)
