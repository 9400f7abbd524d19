-- What holds of the compaction of every list of entries, of every lawful kind.
use Rattle.std.specs.Prelude.{◌≡◌, ℕ, ◌<◌, true, List, [], ◌∷◌, ◌++◌, length, ◌≢◌, slice_index_or}
use Rattle.std.specs.List.{AllByRecursion}
use Rattle.compaction.specs.declared.entry.Entry.{Entry}
use Rattle.compaction.specs.Kinds.{Kind, Lawful, Exact}
use Rattle.compaction.specs.Compaction.{compact, update}
use Rattle.compaction.specs.Replay.{replay}
use Rattle.compaction.specs.Tally.{tally, tally_names}

-- the compaction replays to what the list does
abbrev pub Replays : Type 0
Replays = (k : Kind) → Lawful k → (h : List Entry) (n : ℕ) → replay k (compact k h) n ≡ replay k h n

-- the compaction of one more entry is the update in place
abbrev pub Updates : Type 0
Updates = (k : Kind) → Lawful k → (h : List Entry) (e : Entry) → compact k (h ++ e ∷ []) ≡ update k (compact k h) e

-- a compaction is its own compaction
abbrev pub Settles : Type 0
Settles = (k : Kind) → Lawful k → (h : List Entry) → compact k (compact k h) ≡ compact k h

-- in a compaction no two places hold the same name
abbrev pub StandsOnce : Type 0
StandsOnce = (k : Kind) → Lawful k → (h : List Entry) (i j : ℕ) (d : Entry)
    → i < length (compact k h) → j < length (compact k h)
    → k.same (slice_index_or (compact k h) i d).name (slice_index_or (compact k h) j d).name ≡ true
    → i ≡ j

-- in a compaction no entry holds the default
abbrev pub NoDefault : Type 0
NoDefault = (k : Kind) → Lawful k → (h : List Entry) → AllByRecursion (λ e. e.content ≢ k.default e.name) (compact k h)

-- where a compaction's names are below a bound, as many names below it
-- end with a content other than their default as the compaction has entries
abbrev pub CountsNames : Type 0
CountsNames = (k : Kind) → Lawful k → (h : List Entry) (bound : ℕ)
    → AllByRecursion (λ e. e.name < bound) (compact k h)
    → tally_names k (replay k h) bound ≡ length (compact k h)

-- the same in a kind in which no two numbers are the same name: there every number counts
abbrev pub Counts : Type 0
Counts = (k : Kind) → Lawful k → Exact k → (h : List Entry) (bound : ℕ)
    → AllByRecursion (λ e. e.name < bound) (compact k h)
    → tally k.default (replay k h) bound ≡ length (compact k h)
