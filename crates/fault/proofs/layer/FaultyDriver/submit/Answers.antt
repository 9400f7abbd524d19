use Rattle.std.proofs.Common.{rules, refl, Err, ap, ◌∙◌}
use Rattle.std.proofs.lemmas.Result.{err_from_is_err_and}
use Rattle.driver.specs.Replies.{plain}
use Rattle.fault.proofs.Calls.{went, passing, refused}
use Rattle.fault.proofs.layer.FaultyDriver.submit.Goals as goal

pub returns-in_err-check : goal.returns-in_err-check
returns-in_err-check g c = λ o. let p = err_from_is_err_and c.from_residual.result c.from_residual.ensures.1 in refused _ _ tt c.in_err-check.ensures (ap plain (p.1 ∙ ap Err p.2))

pub returns : goal.returns
returns g c = λ o. passing _ c.pass.result tt refl (went _ _ c.in_ok-check.ensures) (λ r d h. search rules) c.pass.ensures.below c.pass.ensures.above
