-- A request whose answer is heard by its length, or not at all.
use Rattle.std.specs.Prelude.{◌≡◌, ℕ, List, [], length, Ok, Err, Result}
use Rattle.model.specs.Requests.{Request}
use Rattle.model.specs.Rules.{Rules}
use Rattle.model.specs.declared.refusal.Fault.{Fault}
use Rattle.model.specs.declared.refusal.Refusal.{Refusal}
use Rattle.driver.specs.States.{State}
use Rattle.driver.specs.Calls.{Call, Reply}
use Rattle.driver.specs.Replies.{got, Framed}
use Rattle.driver.specs.declared.answers.Collected.{Collected}
use Rattle.driver.specs.declared.answers.Collected.TheVariants.{Done, Lost, Idle, NotYet}
use Rattle.exchange.specs.declared.silence.Silence.{Silence}
use Rattle.exchange.specs.declared.silence.Silence.TheVariants.{Refused, Unanswered}
use Rattle.exchange.specs.Exchanges.{Exchanged, Answered}

-- what an exchange answered: how many bytes, or why there are none
abbrev pub heard_of : Result Collected Refusal → Result ℕ Silence
heard_of (Ok (Done tag n)) = Ok n
heard_of (Ok (Lost tag)) = Err Unanswered
heard_of (Ok Idle) = Err Unanswered
heard_of (Ok NotYet) = Err Unanswered
heard_of (Err x) = Err (Refused x)

-- a request was exchanged with a driver, from s to t, over a buffer: the exchange answered what was heard, by the
-- calls that it made; where nothing waited, it is the request's own answer
pub record Heard {D : Type 0} (u : Rules) (state : D → State) (fault : D → Fault) (steps : D → Call → Reply → D → Type 0) (s : D) (q : Request) (buffer buffer' : List ℕ) (r : Result ℕ Silence) (t : D) : Type 0 where
  pub reply : Result Collected Refusal
  pub calls : Exchanged steps s q (length buffer) (got buffer' reply) t
  pub answer : (state s).waiting ≡ [] → Answered u (state s) q (length buffer) (fault t) (got buffer' reply) (state t)
  pub frame : Framed buffer buffer' reply
  pub heard : r ≡ heard_of reply
