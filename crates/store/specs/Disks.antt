-- What a bare disk makes of one block.
use Rattle.std.specs.Prelude.{◌≡◌, ℕ, ◌*◌, ◌<◌, ◌≤◌, Bool, false, List, length, take, drop, Ok, Err, Decides, Result}
use Rattle.std.proofs.Math.Seq.{paste}
use Rattle.std.specs.declared.vec.Vec.{Vec}
use Rattle.block.specs.declared.disk.Disk.{Disk}
use Rattle.block.specs.Disks.{reach_of}
use Rattle.block.specs.Memories.{memory_of}
use Rattle.store.specs.declared.store.StoreError.{StoreError}
use Rattle.store.specs.declared.store.StoreError.TheVariants.{Full}

-- a block that the disk has is written; any other is refused, and nothing changes
abbrev pub DiskPuts : {Z : Type 0} → Disk (Vec ℕ Z) → ℕ → List ℕ → Result Unit StoreError → Disk (Vec ℕ Z) → Type 0
DiskPuts s a block r t = (a < reach_of (length (memory_of s)) → (r ≡ Ok tt) × (memory_of t ≡ paste (memory_of s) (a * 512) block 512))
    × (reach_of (length (memory_of s)) ≤ a → (r ≡ Err Full) × (memory_of t ≡ memory_of s))

-- a block that the disk has is compared, and any other is not there; nothing changes
abbrev pub DiskLooks : {Z : Type 0} → Disk (Vec ℕ Z) → ℕ → List ℕ → Result Bool StoreError → Disk (Vec ℕ Z) → Type 0
DiskLooks s a block r t = (a < reach_of (length (memory_of s))
    → (b : Bool) × (r ≡ Ok b) × (memory_of t ≡ memory_of s) × Decides b (take 512 (drop (a * 512) (memory_of s)) ≡ block))
    × (reach_of (length (memory_of s)) ≤ a → (r ≡ Ok false) × (memory_of t ≡ memory_of s))
