-- The calls that are made of drivers beside a burst.
use Rattle.std.specs.Prelude.{◌≡◌, ℕ, Bool, true, false, List, [], Result}
use Rattle.model.specs.Requests.{Request}
use Rattle.model.specs.declared.refusal.Refusal.{Refusal}
use Rattle.driver.specs.States.{State}
use Rattle.driver.specs.Calls.{Call, Reply, restart, accepted}
use Rattle.driver.specs.Replies.{got, Refuses}
use Rattle.driver.specs.declared.answers.Collected.{Collected}
use Rattle.exchange.specs.Exchanges.{Exchanged}

-- a driver was restarted: whether it came up
pub data Restarted {D : Type 0} (steps : D → Call → Reply → D → Type 0) (s : D) : Bool → D → Type 0 where
  comes_up : {t : D} → steps s restart accepted t → Restarted steps s true t
  stays_down : {t : D} (r : Reply) → Refuses r → steps s restart r t → Restarted steps s false t

-- a driver that is down was restarted, and one that is up is as it was
pub record Mended {D : Type 0} (state : D → State) (steps : D → Call → Reply → D → Type 0) (s t : D) : Type 0 where
  pub up : (state s).up ≡ true → t ≡ s
  pub down : (state s).up ≡ false → (b : Bool) × Restarted steps s b t

-- the request for the counters, of this kind
abbrev pub counting : ℕ → Request
counting kind = record { tag = 0; kind = kind; address = 0; payload = [] }

-- a driver was asked for its counters once
pub data Counts {D : Type 0} (steps : D → Call → Reply → D → Type 0) (s : D) (kind : ℕ) : D → Type 0 where
  counts : {t : D} (o : Result Collected Refusal) (bytes : List ℕ) → Exchanged steps s (counting kind) 1514 (got bytes o) t → Counts steps s kind t
