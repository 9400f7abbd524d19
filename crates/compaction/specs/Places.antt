-- Where the entry of a name stands.
use Rattle.std.specs.Prelude.{ℕ, ◌+◌, cond, List, [], ◌∷◌, Some, None, Option}
use Rattle.compaction.specs.declared.entry.Entry.{Entry}
use Rattle.compaction.specs.Kinds.{Kind}

-- the place of the first entry of the name n, where the list begins at the place i
abbrev pub place_from : Kind → ℕ → ℕ → List Entry → Option ℕ
place_from k n i [] = None
place_from k n i (e ∷ h) = cond (k.same e.name n) (Some i) (place_from k n (i + 1) h)
