-- The compaction replays to what the history does.
use Rattle.std.proofs.Common.{◌≡◌, rules, ap, ◌∙◌}
use Rattle.compaction.specs.Replay.{replay}
use Rattle.compaction.proofs.Replaying.{replays}
use Rattle.entry_log.specs.Items.{entries_of}
use Rattle.entry_log.proofs.log.Log.content.Goals as goal

pub returns-clause-replayed : goal.returns-clause-replayed
returns-clause-replayed g c h r =
    let k = g.K.EntryKind.kind in
    let v : c.last_content.result ≡ replay k (entries_of c.args.self.now) c.args.name = search rules in
    v ∙ (ap (λ l. replay k l c.args.name) r ∙ replays k g.met.K.EntryKind.lawful h c.args.name)
