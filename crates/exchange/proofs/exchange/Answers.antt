use Rattle.std.proofs.Common.{length, Err, ap, ◌∙◌}
use Rattle.std.proofs.lemmas.Result.{err_from_is_err_and}
use Rattle.model.specs.Headers.{request_of}
use Rattle.driver.specs.Replies.{got}
use Rattle.exchange.specs.Exchanges.{collected}
use Rattle.exchange.proofs.Answering.{answers, refused_first}
use Rattle.exchange.proofs.exchange.Goals as goal

pub returns-in_err-submit-clause-calls : goal.returns-in_err-submit-clause-calls
returns-in_err-submit-clause-calls g c =
    let p = err_from_is_err_and c.from_residual.result c.from_residual.ensures.1 in
    λ o. refused_first g.D.Driver.steps c.args.driver.now c.submit.new.self (request_of c.args.header c.args.payload.now) (length c.args.buffer.now) c.args.buffer.now c.submit.result c.from_residual.result c.in_err-submit.field-0.0
    c.in_err-submit.was (p.1 ∙ ap Err p.2) (c.submit.ensures o)

pub returns-in_err-submit-clause-answer : goal.returns-in_err-submit-clause-answer
returns-in_err-submit-clause-answer g c =
    let d = g.D.Driver in
    let m = g.met.D.Driver in
    λ o w. answers g.D.C.Class.rules d.state d.fault d.ok d.steps m.keeps m.stays m.pairs c.args.driver.now (request_of c.args.header c.args.payload.now) (length c.args.buffer.now) (got c.args.buffer.now c.from_residual.result) c.submit.new.self
    o w (returns-in_err-submit-clause-calls g c o)

pub returns-clause-calls : goal.returns-clause-calls
returns-clause-calls g c =
    λ o. collected c.submit.new.self (c.in_ok-submit.ensures o) (c.collect.ensures.step (g.met.D.Driver.stays _ _ _ _ o (c.in_ok-submit.ensures o)))

pub returns-clause-answer : goal.returns-clause-answer
returns-clause-answer g c =
    let d = g.D.Driver in
    let m = g.met.D.Driver in
    λ o w. answers g.D.C.Class.rules d.state d.fault d.ok d.steps m.keeps m.stays m.pairs c.args.driver.now (request_of c.args.header c.args.payload.now) (length c.args.buffer.now) (got c.collect.new.buffer c.collect.result) c.collect.new.self
    o w (returns-clause-calls g c o)
