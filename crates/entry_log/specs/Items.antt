-- What a log holds: the list of its entries with their marks, the oldest first.
use Rattle.std.specs.Prelude.{◌≡◌, List}
use Rattle.compaction.specs.declared.entry.Entry.{Entry}
use Rattle.compaction.specs.Kinds.{Kind}
use Rattle.compaction.specs.Compaction.{compact}
use Rattle.entries.specs.declared.item.Item.{Item}
pub use Rattle.entries.specs.Items.{entries_of, fresh, marked, handed_entries, other_items, noted, blank, hand_at}

-- the log is the compaction of the history h
abbrev pub Records : Kind → List Entry → List Item → Type 0
Records k h is = entries_of is ≡ compact k h
