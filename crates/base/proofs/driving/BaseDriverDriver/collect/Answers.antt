use Rattle.std.proofs.Common.{◌≡◌, length, Some, None, Err, refl, ◌∙◌, arith, rules}
use Rattle.std.proofs.lemmas.Bool.{cond-true, cond-false, lt-ltb, le-ltb}
use Rattle.model.specs.declared.refusal.Refusal.TheVariants.{Failed}
use Rattle.driver.specs.Replies.{pair}
use Rattle.basis.specs.Steps.{down, refuses, idles}
use Rattle.basis.proofs.Stays.{value_fits}
use Rattle.base.specs.Held.{holding}
use Rattle.base.proofs.Joints.{none_of, oldest_payload, collected}
use Rattle.base.proofs.driving.BaseDriverDriver.collect.Goals as goal

pub returns-in_err-running-clause-step : goal.returns-in_err-running-clause-step
returns-in_err-running-clause-step g c = λ o.
    let shut : c.args.self.now.running ≡ None = search rules in
    let said : c.from_residual.result ≡ Err (Failed (pair 1 0)) = search rules in
    rw (shut, said) (down tt refl refl)

pub returns-then-buffer-LONGEST_ANSWER-clause-step : goal.returns-then-buffer-LONGEST_ANSWER-clause-step
returns-then-buffer-LONGEST_ANSWER-clause-step g c = λ o.
    let held : c.args.self.now.running ≡ Some c.in_ok-running.running.now = search rules in
    let most = g.met.V.C.Class.answered in
    rw held (refuses 8 refl (cond-true _ _ _ (lt-ltb (length c.args.buffer.now) g.V.C.Class.rules.longest (omega (arith, most)))) refl)

pub returns-in_default-clause-step : goal.returns-in_default-clause-step
returns-in_default-clause-step g c = λ o.
    let held : c.args.self.now.running ≡ Some c.in_ok-running.running.now = search rules in
    let most = g.met.V.C.Class.answered in
    rw held (idles refl (cond-false _ _ _ (le-ltb (length c.args.buffer.now) g.V.C.Class.rules.longest (omega (arith, most)))) (none_of c.in_ok-running.running.now.queue (search rules)) refl)

pub returns-clause-step : goal.returns-clause-step
returns-clause-step g c = λ o.
    let u = g.V.C.Class.rules in
    let d = c.args.self.now.device in
    let held : c.args.self.now.running ≡ Some c.in_ok-running.running.now = search rules in
    let s = holding (g.V.Device.reach d) (g.V.Device.contents d) (Some c.in_ok-running.running.now) in
    let b = g.met.V.C.Class.bounds in
    let most = g.met.V.C.Class.answered in
    let v = c.content.ensures.value in
    let fine = rw held at o in
    let f = value_fits u s 0 b fine in
    let m = b.values 0 in
    rw held
    (collected u s c.in_ok-running.running.now.queue c.pop.new.self c.in-Some.head c.low.result c.unwrap_or.result.now c.args.buffer.now c.perform-length.new.answer c.perform-length.result _ _
    b fine refl (omega (arith, most)) refl (search rules) c.pop.ensures (c.low.ensures (omega (arith, v, f, m)) ∙ v) (λ ys e. oldest_payload c.payload.result c.unwrap_or.result _ ys c.unwrap_or.ensures (c.payload.ensures ∙ e)) c.perform-length.ensures)
