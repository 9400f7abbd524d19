use Rattle.std.proofs.Common.{◌≡◌, sym, refl, ◌∙◌, arith}
use Rattle.std.proofs.lemmas.Result.{err_from_is_err_and}
use Rattle.exchange.specs.declared.silence.Silence.TheVariants.{Unanswered}
use Rattle.intake.proofs.Asking.{sent_by}
use Rattle.intake.specs.Wires.{no_sender}
use Rattle.intake.proofs.wires.acknowledge.Goals as goal

pub returns-in_err-reply-clause-calls : goal.returns-in_err-reply-clause-calls
returns-in_err-reply-clause-calls g c o =
    let p = err_from_is_err_and c.from_residual.result c.from_residual.ensures.1 in
    let h = c.in_err-reply.ensures in
    let u : c.in_err-reply.field-0.0 ≡ Unanswered = grind arith in
    rw (p.1, p.2, u) (no_sender (sym c.acknowledgement.ensures ∙ h.ok_part) refl)

pub returns-in_err-ask-clause-calls : goal.returns-in_err-ask-clause-calls
returns-in_err-ask-clause-calls g c o =
    let p = err_from_is_err_and c.from_residual-in_err-ask.result c.from_residual-in_err-ask.ensures.1 in
    rw (p.1, p.2) (sent_by (rw c.from.ensures at c.of_kind.ensures) (sym c.acknowledgement.ensures ∙ c.in_ok-reply.ensures.ok_part) (omega arith) (c.in_err-ask.ensures.heard o))

pub returns-clause-calls : goal.returns-clause-calls
returns-clause-calls g c o = sent_by (rw c.from.ensures at c.of_kind.ensures) (sym c.acknowledgement.ensures ∙ c.in_ok-reply.ensures.ok_part) (omega arith) (c.in_ok-ask.ensures.heard o)
