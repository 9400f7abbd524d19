-- The disk of a block driver: what stands on it, and what one block written or read comes to.
use Rattle.std.specs.Prelude.{◌≡◌, ℕ, ◌+◌, ◌*◌, ◌<◌, ◌≤◌, Bool, false, ◌⊎◌, List, [], ◌∷◌, length, take, drop, Ok, Err, Decides, Result}
use Rattle.std.proofs.Math.Seq.{paste}
use Rattle.model.specs.Requests.{Request, Contents}
use Rattle.model.specs.declared.refusal.Fault.{Fault}
use Rattle.model.specs.declared.refusal.Refusal.TheVariants.{Failed}
use Rattle.block.specs.declared.op.BlockOp.{BlockOp}
use Rattle.block.specs.Blocks.{kind_of, block_at, with_block}
use Rattle.driver.specs.States.{State, holding}
use Rattle.model.specs.declared.header.Header.{Header}
use Rattle.archive.specs.declared.archive.StoreError.{StoreError}
use Rattle.archive.specs.declared.archive.StoreError.TheVariants.{Refused, Unanswered, Damaged}

-- the bytes on the disk
abbrev pub disk : State → List ℕ
disk s = s.contents.memory

-- the contents with other bytes on the disk
abbrev pub on_disk : State → List ℕ → Contents
on_disk s bytes = record { counters = s.contents.counters; memory = bytes }

-- the same driver with other bytes on its disk, and nothing waiting
abbrev pub with_disk : State → List ℕ → State
with_disk s bytes = holding s [] (on_disk s bytes)

-- the header of a request for a block, by its address
abbrev pub header_of : BlockOp → ℕ → Header
header_of op a = record { tag = a; kind = kind_of op; address = a }

-- why a request got no answer of use, where t is the driver after it and f the pair that it answers while down
pub data Stuck (f : Fault) (t : State) : StoreError → Type 0 where
  stuck_failed : t.up ≡ false → Stuck f t (Refused (Failed f))
  stuck_open : (q : Request) → t.waiting ≡ q ∷ [] → Stuck f t Unanswered
  -- only on a disk with less memory than its reach says
  stuck_damaged : length (disk t) < t.reach * 512 → Stuck f t Damaged

-- a block was to be written: done, or perhaps
pub data Wrote (s : State) (a : ℕ) (block : List ℕ) (f : Fault) : Result Unit StoreError → State → Type 0 where
  wrote : {t : State} {x : Unit} → t ≡ with_disk s (with_block a block (disk s)) → Wrote s a block f (Ok x) t
  not_wrote : {t : State} {e : StoreError} (ys : List ℕ) → (ys ≡ disk s) ⊎ (ys ≡ with_block a block (disk s))
      → t.reach ≡ s.reach → t.contents ≡ on_disk s ys → Stuck f t e → Wrote s a block f (Err e) t

-- a block was to be read and compared
pub data Compared (s : State) (a : ℕ) (bytes : List ℕ) (f : Fault) : Result Bool StoreError → State → Type 0 where
  compared : {t : State} {b : Bool} → t ≡ with_disk s (disk s) → Decides b (block_at a (disk s) ≡ bytes) → Compared s a bytes f (Ok b) t
  not_compared : {t : State} {e : StoreError} → t.reach ≡ s.reach → t.contents ≡ s.contents → Stuck f t e → Compared s a bytes f (Err e) t

-- blocks were to be written one after the other, each read back: all of them, or the first k and no other byte
pub data Put (s : State) (first count : ℕ) (bytes : List ℕ) (f : Fault) : Result Unit StoreError → State → Type 0 where
  put : {t : State} {x : Unit} → (first + count) * 512 ≤ length (disk s) ⊎ (count ≡ 0)
      → t ≡ with_disk s (paste (disk s) (first * 512) bytes (count * 512)) → Put s first count bytes f (Ok x) t
  broke_off : {t : State} {e : StoreError} (k : ℕ) → k ≤ count → (first + k) * 512 ≤ length (disk s) ⊎ (k ≡ 0)
      → t.reach ≡ s.reach → t.contents ≡ on_disk s (paste (disk s) (first * 512) bytes (k * 512)) → Stuck f t e → Put s first count bytes f (Err e) t

-- blocks were to be read and compared
pub data Found (s : State) (first count : ℕ) (bytes : List ℕ) (f : Fault) : Result Bool StoreError → State → Type 0 where
  found : {t : State} {b : Bool} → t ≡ with_disk s (disk s) → Decides b (take (count * 512) (drop (first * 512) (disk s)) ≡ take (count * 512) bytes)
      → Found s first count bytes f (Ok b) t
  not_found : {t : State} {e : StoreError} → t.reach ≡ s.reach → t.contents ≡ s.contents → Stuck f t e → Found s first count bytes f (Err e) t

-- one block is written through a driver, which stays the one of its name, and read back
abbrev pub PutsOne : {M N : Type 0} (name : M → N) (ok : M → Type 0) (state : M → State) (fault : M → Fault) → M → ℕ → List ℕ → Result Unit StoreError → M → Type 0
PutsOne name ok state fault s a block r t = (name t ≡ name s)
    × (ok s → ok t × ((state s).waiting ≡ [] → a < (state s).reach → length block ≡ 512 → Put (state s) a 1 block (fault t) r (state t)))

-- one block is read through a driver, and compared
abbrev pub LooksAtOne : {M N : Type 0} (name : M → N) (ok : M → Type 0) (state : M → State) (fault : M → Fault) → M → ℕ → List ℕ → Result Bool StoreError → M → Type 0
LooksAtOne name ok state fault s a block r t = (name t ≡ name s)
    × (ok s → ok t × ((state s).waiting ≡ [] → a < (state s).reach → length block ≡ 512 → Compared (state s) a block (fault t) r (state t)))
