use Rattle.std.proofs.lemmas.Result.{IfOk-from_err}
use Rattle.driver.specs.Calls.{restart}
use Rattle.driver.specs.Replies.{plain, refusal}
use Rattle.driver.proofs.Facts.{refusal_refuses}
use Rattle.burst.specs.Calls.{comes_up, stays_down}
use Rattle.burst.proofs.drivers.start_as.Goals as goal

pub returns-in_err-report_refusal-in-Err : goal.returns-in_err-report_refusal-in-Err
returns-in_err-report_refusal-in-Err g c =
    record {
      fine = λ o. g.met.D.Driver.stays c.args.driver.now restart (plain c.restart.result) c.restart.new.self o (c.restart.ensures o);
      calls = IfOk-from_err _ _ c.from_residual.ensures.0;
    }

pub returns-in-Ok : goal.returns-in-Ok
returns-in-Ok g c =
    record {
      fine = λ o. g.met.D.Driver.stays c.args.driver.now restart (plain c.restart.result) c.restart.new.self o (c.restart.ensures o);
      calls = λ o. comes_up (c.in-Ok.ensures o);
    }

pub returns-in_ok-report_refusal-in-Err : goal.returns-in_ok-report_refusal-in-Err
returns-in_ok-report_refusal-in-Err g c =
    record {
      fine = λ o. g.met.D.Driver.stays c.args.driver.now restart (plain c.restart.result) c.restart.new.self o (c.restart.ensures o);
      calls = λ o. stays_down (refusal c.in-Err.refusal) (refusal_refuses c.in-Err.refusal) (c.in-Err.ensures o);
    }
