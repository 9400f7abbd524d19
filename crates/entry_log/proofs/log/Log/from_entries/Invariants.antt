-- The entries of the log, and then what stays of those that are left, are what stays of all.
use Rattle.std.proofs.Common.{◌≡◌, ◌≤◌, ◌++◌, map, length, drop}
use Rattle.compaction.specs.Compaction.{compact}
use Rattle.entry_log.specs.Items.{fresh}
use Rattle.entry_log.proofs.log.Log.from_entries.Given as goal

abbrev pub invariant-loop-i : goal.invariant-loop-i
invariant-loop-i g l =
    let k = g.K.EntryKind.kind in
    record { made : l.log ++ map fresh (compact k (drop l.i l.entries)) ≡ map fresh (compact k l.entries); few : length l.log ≤ 24 }
