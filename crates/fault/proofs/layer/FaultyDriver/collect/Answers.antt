use Rattle.std.proofs.Common.{rules, sym, Err, ap, ◌∙◌}
use Rattle.std.proofs.lemmas.Result.{err_from_is_err_and}
use Rattle.driver.specs.Replies.{got}
use Rattle.fault.specs.Plans.{told}
use Rattle.fault.proofs.Calls.{went, going, failing, refused, got_told}
use Rattle.fault.proofs.layer.FaultyDriver.collect.Goals as goal
use Rattle.fault.proofs.layer.FaultyDriver.collect.Goals.{in-None, in-Some}

pub returns-in_err-check-clause-step : goal.returns-in_err-check-clause-step
returns-in_err-check-clause-step g c = λ o. let p = err_from_is_err_and c.from_residual.result c.from_residual.ensures.1 in refused _ _ tt c.in_err-check.ensures (ap (got c.args.buffer.now) (p.1 ∙ ap Err p.2))

pub returns-clause-step : goal.returns-clause-step
returns-clause-step g c = λ o. elim c.match-next.branch [
  | in-None w ↦ simp (c.heed.ensures.same, w.answer-is, w.buffer-is, c.heed.ensures.down, w.self-is) (going (told w.collect-answer.result) w.collect-answer.new.self tt (went _ _ c.in_ok-check.ensures) (sym w.in-None.ensures.turn) (w.collect-answer.ensures.step o.inner) (got_told _ _) (search rules))
  | in-Some w ↦ simp (c.heed.ensures.same, w.answer-is, w.buffer-is, c.heed.ensures.down, w.self-is) (failing _ w.in-Some.failure w.answer-answer.new.below tt (went _ _ c.in_ok-check.ensures) (sym w.in-Some.ensures.turn) (λ r h. search rules) w.answer-answer.ensures.below (ap (got _) w.answer-answer.ensures.pair) (search rules))
]
