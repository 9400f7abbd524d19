-- A later entry has the name where one of those that are left has it.
use Rattle.std.proofs.Common.{◌≡◌, drop}
use Rattle.compaction.specs.Compaction.{named}
use Rattle.entries.proofs.slices.stays.Given as goal

abbrev pub invariant-loop-next : goal.invariant-loop-next
invariant-loop-next g l =
    let k = g.K.EntryKind.kind in
    named k l.first.name (drop l.next-index l.later) ≡ named k l.first.name l.later
