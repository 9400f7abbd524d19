use Rattle.std.proofs.Common.{length, ap, arith}
use Rattle.arrivals.proofs.Splits.{split_some}
use Rattle.arrivals.proofs.runs.FramesIterator.next.Goals as goal

pub returns-clause-steps : goal.returns-clause-steps
returns-clause-steps c = (split_some c.args.self.now.left.now (c.in_ok-frame.frame.now, c.in_ok-frame.rest.now) c.in_ok-frame.ensures.parts).frames

pub returns-clause-goes : goal.returns-clause-goes
returns-clause-goes c =
    let e = ap length (split_some c.args.self.now.left.now (c.in_ok-frame.frame.now, c.in_ok-frame.rest.now) c.in_ok-frame.ensures.parts).frames in
    record { on = λ _. (tt, tt, omega (arith, e)); keeps = tt; rests = λ _. tt }
