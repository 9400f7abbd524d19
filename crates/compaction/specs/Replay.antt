-- The replay of a list of entries: the content that each name ends with.
use Rattle.std.specs.Prelude.{ℕ, cond, List, [], ◌∷◌}
use Rattle.compaction.specs.declared.entry.Entry.{Entry}
use Rattle.compaction.specs.Kinds.{Kind}

-- the content of the name n after a list, where it was c before: that of the last entry of this name, else c
abbrev pub content_after : Kind → ℕ → ℕ → List Entry → ℕ
content_after k n c [] = c
content_after k n c (e ∷ h) = content_after k n (cond (k.same e.name n) e.content c) h

-- each name's last content, else its default
abbrev pub replay : Kind → List Entry → ℕ → ℕ
replay k h n = content_after k n (k.default n) h
