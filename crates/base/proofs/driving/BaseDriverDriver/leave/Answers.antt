use Rattle.std.proofs.Common.{◌≡◌, not, List, Some, sym, refl, ap, ◌∙◌, rules}
use Rattle.std.proofs.lemmas.Bool.{cond-true, cond-false}
use Rattle.compaction.specs.declared.entry.Entry.{Entry}
use Rattle.basis.specs.Views.{with_roll}
use Rattle.basis.specs.Steps.{refuses, leaves}
use Rattle.basis.proofs.Stays.{leave_room}
use Rattle.base.specs.Held.{holding}
use Rattle.base.proofs.Joints.{shut_down, taken}
use Rattle.base.proofs.driving.BaseDriverDriver.leave.Goals as goal

pub returns-in_err-running : goal.returns-in_err-running
returns-in_err-running g c = λ o. shut_down _ _ _ _ _ _ tt (search rules) (search rules)

pub returns-then-not-has_name : goal.returns-then-not-has_name
returns-then-not-has_name g c = λ o.
    let held : c.args.self.now.running ≡ Some c.in_ok-running.running.now = search rules in
    rw held (refuses 4 refl (cond-true _ _ _ (ap not (sym c.has_name.ensures ∙ c.if-not-has_name.true))) refl)

pub returns : goal.returns
returns g c = λ o.
    let u = g.V.C.Class.rules in
    let d = c.args.self.now.device in
    let held : c.args.self.now.running ≡ Some c.in_ok-running.running.now = search rules in
    let s = holding (g.V.Device.reach d) (g.V.Device.contents d) (Some c.in_ok-running.running.now) in
    let done = taken (λ _. 0) c.args.name 0 c.in_ok-running.running.now.roll c.note_in.new.log c.note_in.result (leave_room u s c.args.name g.met.V.C.Class.bounds (rw held at o)) (rw c.from.ensures at c.note_in.ensures.test) (rw c.from.ensures at c.note_in.ensures.after) in
    rw (held, done.0)
    (leaves refl (cond-false _ _ _ (ap not (sym c.has_name.ensures ∙ c.if-not-has_name.false))) (ap (λ (l : List Entry). with_roll s l) done.1))
