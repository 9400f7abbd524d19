use Rattle.std.proofs.Common.{arith}
use Rattle.std.proofs.lemmas.List.{nil_from_length}
use Rattle.std.proofs.lemmas.Result.{err_from_is_err_and}
use Rattle.store.proofs.Recorded.{fits, unfit}
use Rattle.archive.specs.Rooms.{has_room, no_room, not_free}
use Rattle.archive.proofs.Keeping.{barred_by}
use Rattle.archive.proofs.rooms.room_for.Goals as goal

pub returns-in_err-record-clause-room : goal.returns-in_err-record-clause-room
returns-in_err-record-clause-room g c o =
    let p = err_from_is_err_and c.from_residual.result c.from_residual.ensures.1 in
    rw (p.1, p.2) (no_room (barred_by (unfit c.args.frame.now c.args.first (g.D.Driver.state c.args.driver.now).reach c.in_err-record.field-0.0 c.reach.result (c.reach.ensures o) c.in_err-record.ensures)))

pub returns-then-waiting-gt0-clause-room : goal.returns-then-waiting-gt0-clause-room
returns-then-waiting-gt0-clause-room g c o =
    let r = fits c.args.frame.now c.args.first (g.D.Driver.state c.args.driver.now).reach c.in_ok-record.record c.reach.result (c.reach.ensures o) c.in_ok-record.ensures in
    let w = c.waiting.ensures o in
    no_room (not_free (record { short = r.short; within = r.within }) (omega arith))

pub returns-clause-room : goal.returns-clause-room
returns-clause-room g c o =
    let r = fits c.args.frame.now c.args.first (g.D.Driver.state c.args.driver.now).reach c.in_ok-record.record c.reach.result (c.reach.ensures o) c.in_ok-record.ensures in
    let w = c.waiting.ensures o in
    has_room (record { fitting = record { short = r.short; within = r.within }; idle = nil_from_length _ (omega arith) }) r.count r.bytes
