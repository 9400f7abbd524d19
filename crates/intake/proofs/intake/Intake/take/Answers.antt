use Rattle.std.proofs.Common.{Ok, Err, refl}
use Rattle.intake.specs.Intakes.{asks_silent, asks_ended, asks_only, asks_all}
use Rattle.intake.proofs.Arriving.{cut, not_cut}
use Rattle.intake.proofs.intake.Intake.take.Goals as goal

pub returns-in-Err-clause-asked : goal.returns-in-Err-clause-asked
returns-in-Err-clause-asked g c o p = asks_silent (c.in-Err.ensures.calls o) refl

pub returns-in_default-clause-asked : goal.returns-in_default-clause-asked
returns-in_default-clause-asked g c o p = asks_ended c.in-Ok.size (c.in-Ok.ensures.calls o) (not_cut c.receive.new.buffer c.in-Ok.size c.in_default.ensures) refl

pub returns-in-Err-save-clause-asked : goal.returns-in-Err-save-clause-asked
returns-in-Err-save-clause-asked g c o p = asks_only (c.in-Ok.ensures.calls o) (cut c.receive.new.buffer c.in-Ok.size c.in-Some.frame.now c.in-Some.ensures).arrived refl

pub returns-in-Ok-acknowledge-clause-asked : goal.returns-in-Ok-acknowledge-clause-asked
returns-in-Ok-acknowledge-clause-asked g c o p =
    let q = cut c.receive.new.buffer c.in-Ok.size c.in-Some.frame.now c.in-Some.ensures in
    asks_all c.in-Ok-save.first c.in-Ok.size c.receive.new.wire (Ok tt) (c.in-Ok.ensures.calls o) q.arrived (c.announce.ensures.calls p)
    (rw q.bytes at (c.in-Ok-acknowledge.ensures.calls (c.receive.ensures.fine o))) refl

pub returns-in-Err-acknowledge-clause-asked : goal.returns-in-Err-acknowledge-clause-asked
returns-in-Err-acknowledge-clause-asked g c o p =
    let q = cut c.receive.new.buffer c.in-Ok.size c.in-Some.frame.now c.in-Some.ensures in
    asks_all c.in-Ok-save.first c.in-Ok.size c.receive.new.wire (Err c.in-Err-acknowledge.silence) (c.in-Ok.ensures.calls o) q.arrived (c.announce.ensures.calls p)
    (rw q.bytes at (c.in-Err-acknowledge.ensures.calls (c.receive.ensures.fine o))) refl
