-- What a store holds, and what it answers to one frame more.
use Rattle.std.specs.Prelude.{◌≡◌, ℕ, ◌+◌, ◌*◌, ◌≤◌, cond, List, length, take, drop, Ok, Err, Result, nat_lt}
use Rattle.std.proofs.Math.Seq.{paste}
use Rattle.block.specs.Disks.{reach_of}
use Rattle.block.specs.Memories.{memory_of}
use Rattle.store.specs.declared.store.Store.{Store}
use Rattle.store.specs.declared.store.StoreError.{StoreError}
use Rattle.store.specs.declared.store.StoreError.TheVariants.{TooLong, Full}
use Rattle.store.specs.Records.{blocks_for, record_of}

-- all bytes of the disk's memory
abbrev pub bytes_of : Store → List ℕ
bytes_of s = memory_of s.disk

-- how many blocks the disk has
abbrev pub blocks_in : Store → ℕ
blocks_in s = reach_of (length (bytes_of s))

-- the first block of a frame of n bytes that is added, or why it is not
abbrev pub verdict : Store → ℕ → Result ℕ StoreError
verdict s n = cond (nat_lt 1514 n) (Err TooLong) (cond (nat_lt (blocks_in s) (s.next + blocks_for n)) (Err Full) (Ok s.next))

-- the memory with the record of a frame from a block on, every other byte as it was
abbrev pub with_record : ℕ → List ℕ → List ℕ → List ℕ
with_record first frame bytes = paste bytes (first * 512) (record_of frame) (blocks_for (length frame) * 512)

-- what stands where the record of such a frame would, from a block on
abbrev pub stored_at : ℕ → ℕ → List ℕ → List ℕ
stored_at first n bytes = take (blocks_for n * 512) (drop (first * 512) bytes)

-- a store holds a frame from a block on
pub record Holds (s : Store) (first : ℕ) (frame : List ℕ) : Type 0 where
  pub short : length frame ≤ 1514
  pub within : first + blocks_for (length frame) ≤ blocks_in s
  pub there : stored_at first (length frame) (bytes_of s) ≡ record_of frame

-- nothing that stands before the free blocks of one store is lost in another
abbrev pub Keeps : Store → Store → Type 0
Keeps s t = (first : ℕ) (frame : List ℕ) → first + blocks_for (length frame) ≤ s.next → Holds s first frame → Holds t first frame
