use Rattle.std.proofs.Common.{rules, Err, ap, ◌∙◌}
use Rattle.std.proofs.lemmas.Result.{err_from_is_err_and}
use Rattle.driver.specs.Replies.{plain}
use Rattle.fault.proofs.Calls.{restart_refuses, restarting}
use Rattle.fault.proofs.layer.FaultyDriver.restart.Goals as goal

pub returns-in_err-pass : goal.returns-in_err-pass
returns-in_err-pass g c = λ o.
    let p = err_from_is_err_and c.from_residual.result c.from_residual.ensures.1 in
    restart_refuses _ _ (λ r d h. search rules) c.in_err-pass.ensures.below c.in_err-pass.ensures.above (ap plain (p.1 ∙ ap Err p.2))

pub returns : goal.returns
returns g c = λ o. restarting _ _ c.pass.new.self (λ r d h. search rules) c.in_ok-pass.ensures.below c.in_ok-pass.ensures.above
