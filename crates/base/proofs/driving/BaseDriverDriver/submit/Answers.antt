use Rattle.std.proofs.Common.{◌≡◌, length, is_some, Some, None, Err, true, false, sym, refl, ap, ◌∙◌, arith, rules}
use Rattle.model.specs.Requests.{Request}
use Rattle.model.specs.Kinds.{takes_of}
use Rattle.model.specs.declared.refusal.Refusal.TheVariants.{Kind}
use Rattle.model.specs.Headers.{request_of}
use Rattle.basis.specs.Steps.{refuses}
use Rattle.base.specs.Held.{holding}
use Rattle.base.proofs.Joints.{shut_down, kind_shut, address_shut, payload_shut, submitted}
use Rattle.base.proofs.driving.BaseDriverDriver.submit.Goals as goal

pub returns-in_err-running : goal.returns-in_err-running
returns-in_err-running g c = λ o. shut_down _ _ _ _ _ _ tt (search rules) (search rules)

pub returns-in_err-op : goal.returns-in_err-op
returns-in_err-op g c = λ o.
    let u = g.V.C.Class.rules in
    let d = c.args.self.now.device in
    let held : c.args.self.now.running ≡ Some c.in_ok-running.running.now = search rules in
    let s = holding (g.V.Device.reach d) (g.V.Device.contents d) (Some c.in_ok-running.running.now) in
    let none : g.V.C.Op.Operation.of c.args.header.kind ≡ None = search rules in
    let said : c.from_residual-in_err-op.result ≡ Err Kind = search rules in
    let q : Request = request_of c.args.header c.args.payload.now in
    rw (held, said) (refuses 5 refl (kind_shut u s q (g.met.V.C.Class.kinds c.args.header.kind ∙ ap is_some none)) refl)

pub returns-then-header-reaches : goal.returns-then-header-reaches
returns-then-header-reaches g c = λ o.
    let u = g.V.C.Class.rules in
    let d = c.args.self.now.device in
    let held : c.args.self.now.running ≡ Some c.in_ok-running.running.now = search rules in
    let s = holding (g.V.Device.reach d) (g.V.Device.contents d) (Some c.in_ok-running.running.now) in
    let found : g.V.C.Op.Operation.of c.args.header.kind ≡ Some c.in_ok-op.op = search rules in
    let kind : u.kind c.args.header.kind ≡ true = g.met.V.C.Class.kinds c.args.header.kind ∙ ap is_some found in
    let q : Request = request_of c.args.header c.args.payload.now in
    rw held (refuses 6 refl (address_shut u s q kind (omega arith)) refl)

pub returns-then-not-takes : goal.returns-then-not-takes
returns-then-not-takes g c = λ o.
    let u = g.V.C.Class.rules in
    let d = c.args.self.now.device in
    let held : c.args.self.now.running ≡ Some c.in_ok-running.running.now = search rules in
    let s = holding (g.V.Device.reach d) (g.V.Device.contents d) (Some c.in_ok-running.running.now) in
    let found : g.V.C.Op.Operation.of c.args.header.kind ≡ Some c.in_ok-op.op = search rules in
    let kind : u.kind c.args.header.kind ≡ true = g.met.V.C.Class.kinds c.args.header.kind ∙ ap is_some found in
    let size : u.takes c.args.header.kind (length c.args.payload.now) ≡ false =
    g.met.V.C.Class.lengths c.args.header.kind (length c.args.payload.now) ∙ (ap (λ op. takes_of g.V.C.Op.Operation.takes op (length c.args.payload.now)) found ∙ (sym c.takes.ensures ∙ c.if-not-takes.true)) in
    let q : Request = request_of c.args.header c.args.payload.now in
    rw held (refuses 7 refl (payload_shut u s q kind (omega arith) size) refl)

pub returns : goal.returns
returns g c = λ o.
    let u = g.V.C.Class.rules in
    let d = c.args.self.now.device in
    let held : c.args.self.now.running ≡ Some c.in_ok-running.running.now = search rules in
    let s = holding (g.V.Device.reach d) (g.V.Device.contents d) (Some c.in_ok-running.running.now) in
    let found : g.V.C.Op.Operation.of c.args.header.kind ≡ Some c.in_ok-op.op = search rules in
    let kind : u.kind c.args.header.kind ≡ true = g.met.V.C.Class.kinds c.args.header.kind ∙ ap is_some found in
    let size : u.takes c.args.header.kind (length c.args.payload.now) ≡ true =
    g.met.V.C.Class.lengths c.args.header.kind (length c.args.payload.now) ∙ (ap (λ op. takes_of g.V.C.Op.Operation.takes op (length c.args.payload.now)) found ∙ (sym c.takes.ensures ∙ c.if-not-takes.false)) in
    let q : Request = request_of c.args.header c.args.payload.now in
    rw held (submitted u s q c.in_ok-running.running.now.queue c.push.new.self c.push.result refl kind (omega arith) size refl c.push.ensures.verdict c.push.ensures.after)
