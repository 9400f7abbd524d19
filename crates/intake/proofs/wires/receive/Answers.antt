use Rattle.intake.proofs.Asking.{received_by}
use Rattle.intake.proofs.wires.receive.Goals as goal

pub returns-clause-calls : goal.returns-clause-calls
returns-clause-calls g c o = received_by (rw c.from.ensures at c.of_kind.ensures) (c.ask.ensures.heard o)
