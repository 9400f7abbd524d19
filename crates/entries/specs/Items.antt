-- Entries with marks, and what becomes of a list of them.
use Rattle.std.specs.Prelude.{ℕ, Bool, true, false, cond, not, List, [], ◌∷◌, ◌++◌, map, filter, slice_index_or, slice_set}
use Rattle.compaction.specs.declared.entry.Entry.{Entry}
use Rattle.compaction.specs.Kinds.{Kind}
use Rattle.compaction.specs.Compaction.{holds_default, entry_of}
use Rattle.entries.specs.declared.item.Item.{Item}

-- the entries of the items, without the marks
abbrev pub entries_of : List Item → List Entry
entries_of is = map (λ i. i.entry) is

-- an entry that has not been handed on
abbrev pub fresh : Entry → Item
fresh e = record { entry = e; handed = false }

-- an item with another mark
abbrev pub marked : Bool → Item → Item
marked m i = record { entry = i.entry; handed = m }

-- the entries that have been handed on
abbrev pub handed_entries : List Item → List Entry
handed_entries is = entries_of (filter (λ i. i.handed) is)

-- the items of other names
abbrev pub other_items : Kind → ℕ → List Item → List Item
other_items k n is = filter (λ i. not (k.same i.entry.name n)) is

-- one more entry, in place: the items of its name go, and it stands last, not handed on, unless it holds the default
abbrev pub noted : Kind → Entry → List Item → List Item
noted k e is = other_items k e.name is ++ cond (holds_default k e) [] (fresh e ∷ [])

-- what is read at a place that holds no item
abbrev pub blank : Item
blank = fresh (entry_of 0 0)

-- the item in the place i marked as handed on; past the end nothing changes
abbrev pub hand_at : ℕ → List Item → List Item
hand_at i is = slice_set is i (marked true (slice_index_or is i blank))
