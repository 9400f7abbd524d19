-- What an intake asks of its wire.
use Rattle.std.specs.Prelude.{◌≡◌, ℕ, cond, ◌&&◌, List, [], length, take, Some, None, Ok, Err, Option, Result, nat_le, nat_lt}
use Rattle.std.specs.Borrow.{Bor}
use Rattle.std.specs.Option.{option_map}
use Rattle.model.specs.Requests.{Request}
use Rattle.model.specs.declared.refusal.Refusal.{Refusal}
use Rattle.driver.specs.Calls.{Call, Reply}
use Rattle.driver.specs.Replies.{got, Framed}
use Rattle.driver.specs.declared.answers.Collected.{Collected}
use Rattle.exchange.specs.Exchanges.{Exchanged}
use Rattle.exchange.specs.Hearing.{heard_of}
use Rattle.exchange.specs.declared.silence.Silence.{Silence}
use Rattle.exchange.specs.declared.silence.Silence.TheVariants.{Unanswered}
use Rattle.reply.specs.Replies.{reply_to}

-- the first bytes of a buffer, if there are that many, and any
abbrev pub front : List ℕ → ℕ → Option (Bor (List ℕ)) → Type 0
front xs n r = option_map (λ y. y.now) r ≡ cond (nat_lt 0 n && nat_le n (length xs)) (Some (take n xs)) None

-- the request for the next frame
abbrev pub receiving : Request
receiving = record { tag = 0; kind = 2; address = 0; payload = [] }

-- the request that sends a frame
abbrev pub sending : List ℕ → Request
sending frame = record { tag = 0; kind = 1; address = 0; payload = frame }

-- that there was an answer, whatever its bytes
abbrev pub settled : Result ℕ Silence → Result Unit Silence
settled (Ok n) = Ok tt
settled (Err e) = Err e

-- a frame was to be received into a buffer: the wire was asked once
pub data Received {D : Type 0} (steps : D → Call → Reply → D → Type 0) (w : D) (buffer buffer' : List ℕ) : Result ℕ Silence → D → Type 0 where
  received : {t : D} {r : Result ℕ Silence} (o : Result Collected Refusal) → Exchanged steps w receiving (length buffer) (got buffer' o) t → Framed buffer buffer' o
      → r ≡ heard_of o → Received steps w buffer buffer' r t

-- a frame was to be acknowledged: the acknowledgement was given to the wire once, or the frame has no sender
pub data Acknowledged {D : Type 0} (steps : D → Call → Reply → D → Type 0) (w : D) (frame : List ℕ) : Result Unit Silence → D → Type 0 where
  sent : {t : D} {r : Result Unit Silence} (o : Result Collected Refusal) (reply bytes : List ℕ) → reply_to frame ≡ Some reply
      → Exchanged steps w (sending reply) 1514 (got bytes o) t → r ≡ settled (heard_of o) → Acknowledged steps w frame r t
  no_sender : {t : D} → reply_to frame ≡ None → t ≡ w → Acknowledged steps w frame (Err Unanswered) t
