-- What an intake asks of its speaker.
use Rattle.std.specs.Prelude.{ℕ, List, Result}
use Rattle.model.specs.Requests.{Request}
use Rattle.model.specs.declared.refusal.Refusal.{Refusal}
use Rattle.driver.specs.Calls.{Call, Reply}
use Rattle.driver.specs.Replies.{got}
use Rattle.driver.specs.declared.answers.Collected.{Collected}
use Rattle.exchange.specs.Exchanges.{Exchanged}

-- the request that plays a tone
abbrev pub playing : List ℕ → Request
playing tone = record { tag = 0; kind = 1; address = 0; payload = tone }

-- a tone was given to the speaker once, whatever it answered
pub data Announced {D : Type 0} (steps : D → Call → Reply → D → Type 0) (p : D) (tone : List ℕ) : D → Type 0 where
  announced : {t : D} (o : Result Collected Refusal) (bytes : List ℕ) → Exchanged steps p (playing tone) 8 (got bytes o) t → Announced steps p tone t
