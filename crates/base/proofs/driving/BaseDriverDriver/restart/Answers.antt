use Rattle.basis.specs.Steps.{restarts}
use Rattle.base.proofs.Joints.{cleared_any}
use Rattle.base.proofs.driving.BaseDriverDriver.restart.Goals as goal

pub returns : goal.returns
returns g c = λ o. rw (c.new.ensures.settings, c.new.ensures.roll, c.new.ensures.queue) (restarts (cleared_any _ _ c.args.self.now.running _))
