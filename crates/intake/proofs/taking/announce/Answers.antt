use Rattle.intake.specs.Announcing.{announced}
use Rattle.intake.proofs.taking.announce.Goals as goal

pub returns-clause-calls : goal.returns-clause-calls
returns-clause-calls g c o =
    announced c.exchange.result c.exchange.new.buffer (rw (rw c.from.ensures at c.of_kind-header.ensures) at (c.exchange.ensures.calls o))
