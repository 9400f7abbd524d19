-- What was asked of a wire, by what was heard of it.
use Rattle.std.proofs.Common.{◌≡◌, ℕ, List, [], length, Some, Result, ap, subst}
use Rattle.model.specs.Rules.{Rules}
use Rattle.model.specs.declared.refusal.Fault.{Fault}
use Rattle.driver.specs.Calls.{Call, Reply}
use Rattle.model.specs.Headers.{request_of, header_of}
use Rattle.driver.specs.States.{State}
use Rattle.model.specs.declared.header.Header.{Header}
use Rattle.exchange.specs.Hearing.{Heard}
use Rattle.exchange.specs.declared.silence.Silence.{Silence}
use Rattle.reply.specs.Replies.{reply_to}
use Rattle.intake.specs.Wires.{receiving, sending, settled, Received, received, Acknowledged, sent}

module _ {D : Type 0} {u : Rules} {state : D → State} {fault : D → Fault} {steps : D → Call → Reply → D → Type 0} {w t : D} {h : Header} {buffer buffer' : List ℕ} {r : Result ℕ Silence} where
  pub received_by : h ≡ header_of receiving → Heard u state fault steps w (request_of h []) buffer buffer' r t → Received steps w buffer buffer' r t
  received_by e x =
      let y = subst (λ (k : Header). Heard u state fault steps w (request_of k []) buffer buffer' r t) e x in
      received y.reply y.calls y.frame y.heard

  pub sent_by : {frame payload : List ℕ} → h ≡ header_of (sending payload) → reply_to frame ≡ Some payload → length buffer ≡ 1514 → Heard u state fault steps w (request_of h payload) buffer buffer' r t
      → Acknowledged steps w frame (settled r) t
  sent_by {frame} {payload} e p l x =
      let y = subst (λ (k : Header). Heard u state fault steps w (request_of k payload) buffer buffer' r t) e x in
      sent y.reply payload buffer' p (rw l at y.calls) (ap settled y.heard)
