-- Looking on a disk for the frames that arrived.
use Rattle.std.specs.Prelude.{◌≡◌, ℕ, suc, ◌+◌, Bool, true, false, min, List, [], ◌∷◌, Ok, Err, Some, None, Decides, Option, Result}
use Rattle.arrivals.specs.Frames.{to_group}
use Rattle.store.specs.declared.records.Record.{Record}
use Rattle.store.specs.declared.store.Store.{Store}
use Rattle.store.specs.Blocks.{record_blocks}
use Rattle.store.specs.Stores.{bytes_of, Holds}
use Rattle.driver.specs.States.{State}
use Rattle.model.specs.declared.refusal.Fault.{Fault}
use Rattle.archive.specs.declared.archive.Store.{Store as Archive}
use Rattle.archive.specs.declared.archive.StoreError.{StoreError}
use Rattle.archive.specs.Stores.{Verified}
use Rattle.burst.specs.Counts.{capped}

-- a store of a bare disk says whether the record stands there, and its bytes stay as they are
abbrev pub DiskLooks : Store → ℕ → List ℕ → Bool → Store → Type 0
DiskLooks s first frame b t = (bytes_of t ≡ bytes_of s) × (t.next ≡ s.next) × Decides b (Holds s first frame)

-- an answer that the record was found
abbrev pub is_found : Result Bool StoreError → Bool
is_found (Ok b) = b
is_found (Err e) = false

-- a store on a driver says so where the driver answers
abbrev pub DriverLooks : {D : Type 0} (ok : D → Type 0) (state : D → State) (fault : D → Fault) → Archive D → ℕ → List ℕ → Bool → Archive D → Type 0
DriverLooks ok state fault s first frame b t =
    (t.next ≡ s.next) × (ok s.driver → ok t.driver × (r : Result Bool StoreError) × (b ≡ is_found r) × Verified (state s.driver) first frame (fault t.driver) r (state t.driver))

-- how many blocks the record of a frame takes
abbrev pub count_of : Option Record → ℕ
count_of None = 0
count_of (Some x) = x.count

-- the block behind a record; it stops at the last address
abbrev pub behind : ℕ → List ℕ → ℕ
behind a frame = min (a + count_of (record_blocks frame)) 4294967295

-- frames are looked for one after the other from a block on, but for those to a group: each behind the last that was
-- found, and n of them are found
pub data Counted {S : Type 0} (looks : S → ℕ → List ℕ → Bool → S → Type 0) : S → ℕ → List (List ℕ) → ℕ → S → Type 0 where
  none_left : {s : S} {a : ℕ} → Counted looks s a [] 0 s
  passed : {s t : S} {a n : ℕ} {x : List ℕ} {xs : List (List ℕ)} → to_group x ≡ true → Counted looks s a xs n t → Counted looks s a (x ∷ xs) n t
  stands : {s m t : S} {a n : ℕ} {x : List ℕ} {xs : List (List ℕ)} → to_group x ≡ false → looks s a x true m → Counted looks m (behind a x) xs n t → Counted looks s a (x ∷ xs) (suc n) t
  missing : {s m t : S} {a n : ℕ} {x : List ℕ} {xs : List (List ℕ)} → to_group x ≡ false → looks s a x false m → Counted looks m a xs n t → Counted looks s a (x ∷ xs) n t

-- all frames were looked for from block 0 on; the count stops at the greatest number
pub record Audited {S : Type 0} (looks : S → ℕ → List ℕ → Bool → S → Type 0) (s : S) (frames : List (List ℕ)) (r : ℕ) (t : S) : Type 0 where
  pub count : ℕ
  pub run : Counted looks s 0 frames count t
  pub told : r ≡ capped count
