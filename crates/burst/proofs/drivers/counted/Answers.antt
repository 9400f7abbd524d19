use Rattle.burst.specs.Calls.{counts}
use Rattle.burst.proofs.drivers.counted.Goals as goal

pub returns : goal.returns
returns g c = λ o. counts c.exchange.result c.exchange.new.buffer (rw c.of_kind.ensures at (c.exchange.ensures.calls o))
