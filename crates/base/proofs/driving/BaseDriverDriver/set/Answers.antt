use Rattle.std.proofs.Common.{◌≡◌, List, Some, None, Err, refl, ap, arith, rules}
use Rattle.std.specs.List.{slice_get}
use Rattle.model.specs.Rules.{initial}
use Rattle.model.specs.declared.refusal.Refusal.TheVariants.{Setting}
use Rattle.model.proofs.Rows.{row_of_setting, no_row}
use Rattle.compaction.specs.declared.entry.Entry.{Entry}
use Rattle.basis.specs.Views.{with_settings}
use Rattle.basis.specs.Steps.{refuses, sets}
use Rattle.basis.proofs.Stays.{set_room}
use Rattle.base.specs.Held.{holding}
use Rattle.base.proofs.Joints.{shut_down, taken, set_open, setting_shut, value_shut}
use Rattle.base.proofs.driving.BaseDriverDriver.set.Goals as goal

pub returns-in_err-running : goal.returns-in_err-running
returns-in_err-running g c = λ o. shut_down _ _ _ _ _ _ tt (search rules) (search rules)

pub returns-in_err-range : goal.returns-in_err-range
returns-in_err-range g c = λ o.
    let u = g.V.C.Class.rules in
    let d = c.args.self.now.device in
    let held : c.args.self.now.running ≡ Some c.in_ok-running.running.now = search rules in
    let s = holding (g.V.Device.reach d) (g.V.Device.contents d) (Some c.in_ok-running.running.now) in
    let none : slice_get u.settings c.args.key ≡ None = search rules in
    let said : c.from_residual-in_err-range.result ≡ Err Setting = search rules in
    rw (held, said) (refuses 2 refl (setting_shut u s c.args.key c.args.value (no_row u c.args.key none)) refl)

pub returns-then-range-value : goal.returns-then-range-value
returns-then-range-value g c = λ o.
    let u = g.V.C.Class.rules in
    let d = c.args.self.now.device in
    let held : c.args.self.now.running ≡ Some c.in_ok-running.running.now = search rules in
    let s = holding (g.V.Device.reach d) (g.V.Device.contents d) (Some c.in_ok-running.running.now) in
    let found : slice_get u.settings c.args.key ≡ Some c.in_ok-range.range = search rules in
    let row = row_of_setting u c.args.key c.in_ok-range.range found in
    rw held (refuses 3 refl (value_shut u s c.args.key c.args.value row.0 (omega (arith, row.1))) refl)

pub returns : goal.returns
returns g c = λ o.
    let u = g.V.C.Class.rules in
    let d = c.args.self.now.device in
    let held : c.args.self.now.running ≡ Some c.in_ok-running.running.now = search rules in
    let s = holding (g.V.Device.reach d) (g.V.Device.contents d) (Some c.in_ok-running.running.now) in
    let found : slice_get u.settings c.args.key ≡ Some c.in_ok-range.range = search rules in
    let row = row_of_setting u c.args.key c.in_ok-range.range found in
    let open' = set_open u s c.args.key c.args.value row.0 (omega (arith, row.1)) in
    let done = taken (initial u) c.args.key c.args.value c.in_ok-running.running.now.settings c.note_in.new.log c.note_in.result
    (set_room u s c.args.key c.args.value g.met.V.C.Class.bounds (rw held at o) refl open') c.note_in.ensures.test c.note_in.ensures.after in
    rw (held, done.0) (sets refl open' (ap (λ (l : List Entry). with_settings s l) done.1))
