use Rattle.basis.specs.Steps.{stops}
use Rattle.base.proofs.Joints.{cleared_any}
use Rattle.base.proofs.driving.BaseDriverDriver.stop.Goals as goal

pub returns : goal.returns
returns g c = λ o. stops (cleared_any _ _ c.args.self.now.running _)
