use Rattle.std.proofs.Common.{◌≡◌, Some, Ok, true, sym, ap, ◌∙◌, arith, rules}
use Rattle.std.proofs.lemmas.Bool.{cond-true}
use Rattle.model.specs.Rules.{has_setting}
use Rattle.compaction.specs.Replay.{replay}
use Rattle.entry_log.specs.Kinds.{setting_kind}
use Rattle.basis.proofs.Stays.{value_fits}
use Rattle.base.specs.Held.{holding}
use Rattle.base.proofs.driving.BaseDriverDriver.get.Goals as goal

pub returns : goal.returns
returns g c = λ o.
    let u = g.V.C.Class.rules in
    let d = c.args.self.now.device in
    let held : c.args.self.now.running ≡ Some c.in_ok-running.running.now = search rules in
    let s = holding (g.V.Device.reach d) (g.V.Device.contents d) (Some c.in_ok-running.running.now) in
    let key : has_setting u c.args.key ≡ true = rw c.from-key.ensures at (sym c.has_setting.ensures ∙ c.if-not-has_setting.false) in
    let v : c.content.result ≡ replay (setting_kind u) s.settings c.args.key = c.content.ensures.value ∙ ap (replay (setting_kind u) s.settings) c.from-key.ensures in
    let f = value_fits u s c.args.key g.met.V.C.Class.bounds (rw held at o) in
    let b = g.met.V.C.Class.bounds.values c.args.key in
    let l = c.low.ensures (omega (arith, v, f, b)) in
    rw held (ap Ok (l ∙ v) ∙ sym (cond-true _ _ _ key))
