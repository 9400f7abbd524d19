-- The three ways: the default, no room, and one more entry.
use Rattle.std.proofs.Common.{◌≡◌}
use Rattle.std.proofs.lemmas.Grind.{common_steps}
use Rattle.std.proofs.Common.{arith}
use Rattle.compaction.specs.Compaction.{entry_of}
use Rattle.entry_log.specs.Items.{noted}
use Rattle.entries.proofs.Updates.{noted_records}
use Rattle.entry_log.proofs.log.Log.note.Goals as goal

pub returns-then-content-default_content-clause-records : goal.returns-then-content-default_content-clause-records
returns-then-content-default_content-clause-records g c _ h r =
    let a : c.remove_same.new.items.items ≡ noted g.K.EntryKind.kind (entry_of c.args.name c.args.content) c.args.self.now = grind (arith, common_steps) in
    noted_records g.K.EntryKind.kind g.met.K.EntryKind.lawful _ c.args.self.now _ a h r

pub returns-clause-records : goal.returns-clause-records
returns-clause-records g c o h r =
    let a : c.append.new.self ≡ noted g.K.EntryKind.kind (entry_of c.args.name c.args.content) c.args.self.now = grind (arith, common_steps) in
    noted_records g.K.EntryKind.kind g.met.K.EntryKind.lawful _ c.args.self.now _ a h r
