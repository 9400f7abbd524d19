use Rattle.std.proofs.Common.{◌≡◌, ◌<◌, not, ◌⊎◌, List, length, Some, sym, refl, ap, ◌∙◌, inl, inr, arith, rules}
use lib.ListN.{length-map}
use Rattle.std.proofs.lemmas.Bool.{cond-true, both_ways, eq-eqb, eqb-true}
use Rattle.compaction.specs.declared.entry.Entry.{Entry}
use Rattle.compaction.specs.Replay.{replay}
use Rattle.entries.specs.declared.item.Item.{Item}
use Rattle.entry_log.specs.Kinds.{membership_kind}
use Rattle.entry_log.specs.Items.{entries_of}
use Rattle.basis.specs.Views.{with_roll}
use Rattle.basis.specs.Steps.{refuses, joins}
use Rattle.basis.proofs.Stays.{join_room}
use Rattle.base.specs.Held.{holding}
use Rattle.base.proofs.Joints.{shut_down, taken, join_open, join_shut}
use Rattle.base.proofs.driving.BaseDriverDriver.join.Goals as goal
use Rattle.base.proofs.driving.BaseDriverDriver.join.Goals.{else-not-has_joined-via-then-not-has_joined+else-len-ROLL_LIMIT, else-not-has_joined-via-else-not-has_joined}

pub returns-in_err-running : goal.returns-in_err-running
returns-in_err-running g c = λ o. shut_down _ _ _ _ _ _ tt (search rules) (search rules)

pub returns-then-not-has_name : goal.returns-then-not-has_name
returns-then-not-has_name g c = λ o.
    let held : c.args.self.now.running ≡ Some c.in_ok-running.running.now = search rules in
    rw held (refuses 4 refl (cond-true _ _ _ (ap not (sym c.has_name.ensures ∙ c.if-not-has_name.true))) refl)

pub returns-then-len-ROLL_LIMIT : goal.returns-then-len-ROLL_LIMIT
returns-then-len-ROLL_LIMIT g c = λ o.
    let d = c.args.self.now.device in
    let roll = c.in_ok-running.running.now.roll in
    let held : c.args.self.now.running ≡ Some c.in_ok-running.running.now = search rules in
    let s = holding (g.V.Device.reach d) (g.V.Device.contents d) (Some c.in_ok-running.running.now) in
    let m = length-map roll (λ (x : Item). x.entry) in
    let limit = g.met.V.C.Class.limited in
    rw held (refuses 9 refl (join_shut g.V.C.Class.rules s c.args.name (rw held at o) (sym c.has_name.ensures ∙ c.if-not-has_name.false)
    (λ z. both_ways _ (sym c.has_joined.ensures ∙ c.if-not-has_joined.true) (eq-eqb _ 1 z)) (omega (arith, m, limit))) refl)

pub returns : goal.returns
returns g c = λ o.
    let u = g.V.C.Class.rules in
    let d = c.args.self.now.device in
    let roll = c.in_ok-running.running.now.roll in
    let held : c.args.self.now.running ≡ Some c.in_ok-running.running.now = search rules in
    let s = holding (g.V.Device.reach d) (g.V.Device.contents d) (Some c.in_ok-running.running.now) in
    let m = length-map roll (λ (x : Item). x.entry) in
    let limit = g.met.V.C.Class.limited in
    let w : (replay membership_kind (entries_of roll) c.args.name ≡ 1) ⊎ (length (entries_of roll) < u.limit) = elim c.else-not-has_joined.branch [
      | else-not-has_joined-via-then-not-has_joined+else-len-ROLL_LIMIT w ↦ inr (omega (arith, m, limit))
      | else-not-has_joined-via-else-not-has_joined w ↦ inl (eqb-true _ 1 (sym c.has_joined.ensures ∙ w.if-not-has_joined.false))
    ] in
    let open' = join_open u s c.args.name (rw held at o) (sym c.has_name.ensures ∙ c.if-not-has_name.false) w in
    let done = taken (λ _. 0) c.args.name 1 roll c.note_in.new.log c.note_in.result (join_room u s c.args.name g.met.V.C.Class.bounds (rw held at o) open') (rw c.from.ensures at c.note_in.ensures.test) (rw c.from.ensures at c.note_in.ensures.after) in
    rw (held, done.0) (joins refl open' (ap (λ (l : List Entry). with_roll s l) done.1))
