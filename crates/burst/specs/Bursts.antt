-- What a whole burst leaves.
use Rattle.std.specs.Prelude.{◌≡◌, ℕ, ◌+◌, ◌≤◌, List, [], ◌∷◌, length, sum_by}
use Rattle.driver.specs.States.{State}
use Rattle.store.specs.Records.{blocks_for}
use Rattle.archive.specs.Stores.{Holds, Keeps}
use Rattle.burst.specs.declared.tally.Tally.{Tally}
use Rattle.burst.specs.Counts.{capped}

-- a frame, and the block from which its record stands
pub record Placed : Type 0 where
  pub first : ℕ
  pub frame : List ℕ

-- frames, the newest first, whose records stand one behind the other on a disk, without a gap, from one block on up
-- to another: so no two of them share a block
abbrev pub Rows : State → ℕ → ℕ → List Placed → Type 0
Rows t start end [] = end ≡ start
Rows t start end (p ∷ ps) = Holds t p.first p.frame × (end ≡ p.first + blocks_for (length p.frame)) × Rows t start p.first ps

-- what a burst leaves, from the disk and its first free block before to those after: as many frames as it counted as
-- stored, with as many bytes, stand on the disk, each in blocks of its own that were free before, and nothing is lost
-- that stood there before
pub record Left (s : State) (next : ℕ) (t : State) (next' : ℕ) (tally : Tally) : Type 0 where
  -- the newest first
  pub placed : List Placed
  pub stored : tally.stored ≡ capped (length placed)
  pub bytes : tally.bytes ≡ capped (sum_by (λ p. length p.frame) placed)
  pub stand : Rows t next next' placed
  pub keeps : Keeps next s t
  pub grows : next ≤ next'
