-- Which call is to fail, and what a failure leaves.
use Rattle.std.specs.Prelude.{◌≡◌, ℕ, ◌+◌, cond, ◌&&◌, Some, None, Ok, Err, Option, Result, ◌==◌, nat_lt}
use Rattle.model.specs.Refusals.{fault_of}
use Rattle.model.specs.declared.refusal.Fault.{Fault}
use Rattle.model.specs.declared.refusal.Refusal.{Refusal}
use Rattle.model.specs.declared.refusal.Refusal.TheVariants.{Failed}
use Rattle.driver.specs.Replies.{pair}
use Rattle.fault.specs.declared.parts.Plan.{Plan}
use Rattle.fault.specs.declared.parts.Failure.{Failure}
use Rattle.fault.specs.declared.parts.Way.{Way}
use Rattle.fault.specs.declared.parts.Way.TheVariants.{Unmade, Dropped}

-- the way that a number stands for: 0 leaves the call unmade below, any other makes it and drops its answer
abbrev pub way_of : ℕ → Way
way_of n = cond (n == 0) Unmade Dropped

-- a failure in a way, with a pair
abbrev pub failure : Way → Fault → Failure
failure w f = record { way = w; fault = f }

-- how the next call fails, if it does: it gets the next number, up to 4294967295, and later calls get none
abbrev pub turn : Plan → Option Failure
turn p =
    cond (nat_lt p.made 4294967295 && p.made + 1 == p.number)
    (Some (failure p.way (pair 2 p.number)))
    None

-- one call more has got a number
abbrev pub counted : Plan → Plan
counted p = record { made = cond (nat_lt p.made 4294967295) (p.made + 1) p.made; number = p.number; way = p.way }

-- the layer is down with this pair
abbrev pub shut : Fault → Option Fault
shut f = Some f

-- the layer is up
abbrev pub opened : Option Fault
opened = None

-- the pair that an answer from below carries
abbrev pub told : {A : Type 0} → Result A Refusal → Option Fault
told (Ok _) = None
told (Err x) = fault_of x

-- a failure takes the layer down with its pair
abbrev pub heeded : Option Fault → Option Fault → Option Fault
heeded d (Some f) = shut f
heeded d None = d

module _ {A D : Type 0} (call : D → Result A Refusal → D → Type 0) where
  -- what a call that fails in a way does to the driver below, where call says what the call itself does
  abbrev pub Fails : Way → D → D → Type 0
  Fails Unmade d d' = d' ≡ d
  Fails Dropped d d' = (r : Result A Refusal) × call d r d'

  -- what a call answers and does to the driver below: it passes through, or fails as it is told to
  abbrev pub Passes : Option Failure → D → Result A Refusal → D → Type 0
  Passes None d r d' = call d r d'
  Passes (Some f) d r d' = (r ≡ Err (Failed f.fault)) × Fails f.way d d'
