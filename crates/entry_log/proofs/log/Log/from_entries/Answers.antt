-- The log has the entries that stay, none of them handed on.
use Rattle.std.proofs.Common.{◌≡◌, map, ap, ◌∙◌, arith}
use Rattle.std.proofs.lemmas.Grind.{common_steps}
use Rattle.compaction.specs.Compaction.{compact}
use Rattle.entry_log.specs.Items.{entries_of, fresh}
use Rattle.entries.proofs.Updates.{entries_fresh}
use Rattle.entry_log.proofs.log.Log.from_entries.Goals as goal

pub returns-clause-records : goal.returns-clause-records
returns-clause-records g c =
    let h = compact g.K.EntryKind.kind c.args.entries.now in
    let a : c.loop-i.log ≡ map fresh h = grind (arith, common_steps) in
    ap entries_of a ∙ entries_fresh h
