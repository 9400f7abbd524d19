-- Whether there is room for a frame from a block on.
use Rattle.std.specs.Prelude.{◌≡◌, ℕ, ◌+◌, ◌<◌, ◌≤◌, List, [], length, Ok, Err, Result}
use Rattle.driver.specs.States.{State}
use Rattle.store.specs.Records.{blocks_for, padded}
use Rattle.store.specs.declared.records.Record.{Record}
use Rattle.archive.specs.declared.archive.StoreError.{StoreError}
use Rattle.archive.specs.declared.archive.StoreError.TheVariants.{TooLong, Full, Busy}

-- a frame has a record, and the disk has blocks for it from a block on
pub record Fitting (s : State) (first : ℕ) (frame : List ℕ) : Type 0 where
  pub short : length frame ≤ 1514
  pub within : first + blocks_for (length frame) ≤ s.reach

-- why a frame cannot be written or looked for from a block on, by the first reason that holds
pub data Barred (s : State) (first : ℕ) (frame : List ℕ) : StoreError → Type 0 where
  too_long : 1514 < length frame → Barred s first frame TooLong
  too_few : length frame ≤ 1514 → s.reach < first + blocks_for (length frame) → Barred s first frame Full
  not_free : Fitting s first frame → 0 < length s.waiting → Barred s first frame Busy

-- a frame that fits, on a driver at which nothing waits
pub record Free (s : State) (first : ℕ) (frame : List ℕ) : Type 0 where
  pub fitting : Fitting s first frame
  pub idle : s.waiting ≡ []

-- the record of a frame for which there is room, or why there is none
pub data Roomed (s : State) (first : ℕ) (frame : List ℕ) : Result Record StoreError → Type 0 where
  has_room : {r : Record} → Free s first frame → r.count ≡ blocks_for (length frame) → r.bytes ≡ padded frame → Roomed s first frame (Ok r)
  no_room : {e : StoreError} → Barred s first frame e → Roomed s first frame (Err e)
