-- What a store holds, and what it answers to one frame more.
use Rattle.std.specs.Prelude.{◌≡◌, ℕ, ◌+◌, ◌*◌, ◌≤◌, Bool, List, length, take, drop, Ok, Err, Decides, Result}
use Rattle.std.proofs.Math.Seq.{paste}
use Rattle.model.specs.declared.refusal.Fault.{Fault}
use Rattle.driver.specs.States.{State}
use Rattle.store.specs.Records.{blocks_for, padded, record_of}
use Rattle.archive.specs.declared.archive.StoreError.{StoreError}
use Rattle.archive.specs.Disks.{disk, on_disk, with_disk, Stuck}
use Rattle.archive.specs.Rooms.{Free, Barred}

-- the bytes of a disk with the first k blocks of the record of a frame from a block on, every other byte as it was
abbrev pub with_blocks : ℕ → ℕ → List ℕ → List ℕ → List ℕ
with_blocks k first frame bytes = paste bytes (first * 512) (padded frame) (k * 512)

-- what stands where the record of a frame of n bytes would, from a block on
abbrev pub stored_at : ℕ → ℕ → List ℕ → List ℕ
stored_at first n bytes = take (blocks_for n * 512) (drop (first * 512) bytes)

-- a driver's disk holds a frame from a block on
pub record Holds (s : State) (first : ℕ) (frame : List ℕ) : Type 0 where
  pub short : length frame ≤ 1514
  pub within : first + blocks_for (length frame) ≤ s.reach
  pub there : stored_at first (length frame) (disk s) ≡ record_of frame

-- nothing that stands before a block is lost
abbrev pub Keeps : ℕ → State → State → Type 0
Keeps next s t = (first : ℕ) (frame : List ℕ) → first + blocks_for (length frame) ≤ next → Holds s first frame → Holds t first frame

-- what saving a frame comes to, from the first free block before to that after it; f is the pair that the driver
-- then answers while it is down
pub data Saved (s : State) (next : ℕ) (frame : List ℕ) (f : Fault) : Result ℕ StoreError → State → ℕ → Type 0 where
  -- the record stands from the first free block on, and no other byte has changed
  saves : {t : State} {next' : ℕ} → Free s next frame → t ≡ with_disk s (with_blocks (blocks_for (length frame)) next frame (disk s)) → Holds t next frame
      → next' ≡ next + blocks_for (length frame) → Saved s next frame f (Ok next) t next'
  -- there is no room, and nothing has changed
  is_barred : {t : State} {next' : ℕ} {e : StoreError} → Barred s next frame e → t ≡ s → next' ≡ next → Saved s next frame f (Err e) t next'
  -- the driver did not answer: the first k blocks of the record stand there, and no other byte has changed
  breaks_off : {t : State} {next' : ℕ} {e : StoreError} (k : ℕ) → Free s next frame → k ≤ blocks_for (length frame) → t.reach ≡ s.reach
      → t.contents ≡ on_disk s (with_blocks k next frame (disk s)) → Stuck f t e → next' ≡ next → Saved s next frame f (Err e) t next'

-- what looking for a frame comes to: the contents never change
pub data Verified (s : State) (first : ℕ) (frame : List ℕ) (f : Fault) : Result Bool StoreError → State → Type 0 where
  verifies : {t : State} {b : Bool} → Free s first frame → Decides b (Holds s first frame) → t ≡ s → Verified s first frame f (Ok b) t
  looks_barred : {t : State} {e : StoreError} → Barred s first frame e → t ≡ s → Verified s first frame f (Err e) t
  looks_stuck : {t : State} {e : StoreError} → Free s first frame → t.reach ≡ s.reach → t.contents ≡ s.contents → Stuck f t e → Verified s first frame f (Err e) t
