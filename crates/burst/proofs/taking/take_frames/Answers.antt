use Rattle.std.proofs.Common.{sym, refl, subst, arith, rules}
use Rattle.std.proofs.lemmas.Result.{IfOk-from_err}
use Rattle.burst.specs.declared.tally.Tally.{Tally}
use Rattle.burst.specs.Bursts.{Left}
use Rattle.burst.proofs.Placing.{nothing_left, left_more}
use Rattle.burst.proofs.taking.take_frames.Goals as goal

pub loop-number-init : goal.loop-number-init
loop-number-init g c =
    (refl, (λ o. o), (λ o. o), (λ o. o), (λ o. nothing_left (g.B.Driver.state c.args.intake.now.store.driver) c.args.intake.now.store.next c.default-tally.result (search rules)))

pub loop-number-preserved : goal.loop-number-preserved
loop-number-preserved g c =
    let d = g.B.Driver in
    let s = d.state c.args.intake.now.store.driver in
    let m = d.state c.loop-number.intake.store.driver in
    let t = d.state c.take-event.new.self.store.driver in
    let next = c.args.intake.now.store.next in
    let mid = c.loop-number.intake.store.next in
    let fine = c.loop-number.invariant.2 in
    let left : d.ok c.args.intake.now.store.driver → Left s next t c.take-event.new.self.store.next c.count.new.self =
    λ o. subst (λ (x : Tally). Left s next t c.take-event.new.self.store.next x) (sym c.count.ensures)
    (left_more s m t next mid c.take-event.new.self.store.next c.loop-number.tally (c.loop-number.invariant.4 o) (c.take-event.ensures.keeps (fine o)) (d.fault c.take-event.new.self.store.driver)
    c.take-event.new.buffer c.take-event.result (c.take-event.ensures.shelved (fine o))) in (
      omega arith,
      (λ o. c.take-event.ensures.wire (c.loop-number.invariant.1 o)),
      (λ o. c.take-event.ensures.disk (fine o)),
      (λ o. c.take-event.ensures.speaker (c.loop-number.invariant.3 o)),
      left,
    )

pub returns-in_err-report_event : goal.returns-in_err-report_event
returns-in_err-report_event g c =
    let d = g.B.Driver in
    let s = d.state c.args.intake.now.store.driver in
    let m = d.state c.loop-number.intake.store.driver in
    let t = d.state c.take-event.new.self.store.driver in
    let next = c.args.intake.now.store.next in
    let mid = c.loop-number.intake.store.next in
    let fine = c.loop-number.invariant.2 in
    let left : d.ok c.args.intake.now.store.driver → Left s next t c.take-event.new.self.store.next c.count.new.self =
    λ o. subst (λ (x : Tally). Left s next t c.take-event.new.self.store.next x) (sym c.count.ensures)
    (left_more s m t next mid c.take-event.new.self.store.next c.loop-number.tally (c.loop-number.invariant.4 o) (c.take-event.ensures.keeps (fine o)) (d.fault c.take-event.new.self.store.driver)
    c.take-event.new.buffer c.take-event.result (c.take-event.ensures.shelved (fine o))) in
    record {
      wire = λ o. c.take-event.ensures.wire (c.loop-number.invariant.1 o);
      disk = λ o. c.take-event.ensures.disk (fine o);
      speaker = λ o. c.take-event.ensures.speaker (c.loop-number.invariant.3 o);
      keeps = λ o. (left o).keeps;
      left = IfOk-from_err _ _ c.from_residual.ensures.0;
    }

pub returns-then-ends : goal.returns-then-ends
returns-then-ends g c =
    let d = g.B.Driver in
    let s = d.state c.args.intake.now.store.driver in
    let m = d.state c.loop-number.intake.store.driver in
    let t = d.state c.take-event.new.self.store.driver in
    let next = c.args.intake.now.store.next in
    let mid = c.loop-number.intake.store.next in
    let fine = c.loop-number.invariant.2 in
    let left : d.ok c.args.intake.now.store.driver → Left s next t c.take-event.new.self.store.next c.count.new.self =
    λ o. subst (λ (x : Tally). Left s next t c.take-event.new.self.store.next x) (sym c.count.ensures)
    (left_more s m t next mid c.take-event.new.self.store.next c.loop-number.tally (c.loop-number.invariant.4 o) (c.take-event.ensures.keeps (fine o)) (d.fault c.take-event.new.self.store.driver)
    c.take-event.new.buffer c.take-event.result (c.take-event.ensures.shelved (fine o))) in
    record {
      wire = λ o. c.take-event.ensures.wire (c.loop-number.invariant.1 o);
      disk = λ o. c.take-event.ensures.disk (fine o);
      speaker = λ o. c.take-event.ensures.speaker (c.loop-number.invariant.3 o);
      keeps = λ o. (left o).keeps;
      left = left;
    }

pub returns : goal.returns
returns g c =
    record {
      wire = c.loop-number.invariant.1;
      disk = c.loop-number.invariant.2;
      speaker = c.loop-number.invariant.3;
      keeps = λ o. (c.loop-number.invariant.4 o).keeps;
      left = c.loop-number.invariant.4;
    }
