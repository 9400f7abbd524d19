-- The entry noted is marked in its place, or holds the default and has none.
use Rattle.std.proofs.Common.{sym}
use Rattle.compaction.specs.Compaction.{entry_of}
use Rattle.entries.proofs.Handed.{handed_at_place, handed_no_place}
use Rattle.log_tests.proofs.client.note_handed.Goals as goal

pub returns-in-Some : goal.returns-in-Some
returns-in-Some g c _ =
    handed_at_place g.K.EntryKind.kind g.met.K.EntryKind.lawful (entry_of c.args.name c.args.content) c.args.log.now c.note.new.self _ c.in-Some.i
    c.in_ok-note.ensures.after
    (sym c.in-Some.ensures)
    c.hand.ensures.after

pub returns-in_default : goal.returns-in_default
returns-in_default g c _ =
    handed_no_place g.K.EntryKind.kind g.met.K.EntryKind.lawful (entry_of c.args.name c.args.content) c.args.log.now c.note.new.self
    c.in_ok-note.ensures.after
    (sym c.in_default.ensures)
