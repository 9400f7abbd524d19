use Rattle.std.proofs.Common.{refl}
use Rattle.fault.specs.Layers.{stopped}
use Rattle.fault.proofs.layer.FaultyDriver.stop.Goals as goal

pub returns : goal.returns
returns g c = λ o. stopped c.stop.new.self (c.stop.ensures o.inner) refl
