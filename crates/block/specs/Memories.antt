-- The memory that a disk stands on.
use Rattle.std.specs.Prelude.{ℕ, ◌+◌, cond, List, length, nat_le, vec_items}
use Rattle.std.proofs.Math.Seq.{paste}
use Rattle.std.specs.declared.vec.Vec.{Vec}
use Rattle.block.specs.declared.disk.Disk.{Disk}

-- the bytes with a block in the place of those from a place on; one that does not fit changes nothing
abbrev pub written : ℕ → List ℕ → List ℕ → List ℕ
written at block xs = cond (nat_le (at + length block) (length xs)) (paste xs at block (length block)) xs

module _ {M : Type 0} where
  -- what a disk stands on
  abbrev pub stands_on : Disk M → M
  stands_on d = d.memory

module _ {Z : Type 0} where
  -- the bytes that a disk owns
  abbrev pub memory_of : Disk (Vec ℕ Z) → List ℕ
  memory_of d = vec_items (stands_on d)
