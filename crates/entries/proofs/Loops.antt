-- One turn of a loop over a log's entries.
use Rattle.std.proofs.Common.{◌≡◌, ℕ, ◌+◌, ◌<◌, Bool, ◌||◌, List, length, get_or, drop, sym, ◌∙◌}
use Rattle.std.proofs.lemmas.List.{at_drop_more}
use Rattle.compaction.specs.declared.entry.Entry.{Entry}
use Rattle.compaction.specs.Kinds.{Kind}
use Rattle.compaction.specs.Compaction.{named, entry_of}

-- whether the name n comes later
pub named_more : (k : Kind) (n : ℕ) (b : Bool) (h : List Entry) (i : ℕ) → i < length h
    → named k n (drop i h) ≡ b
    → (k.same (get_or h i (entry_of 0 0)).name n || named k n (drop (i + 1) h)) ≡ b
named_more k n b h i lt inv = sym (at_drop_more (named k n) h i (entry_of 0 0) lt) ∙ inv
