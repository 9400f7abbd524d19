-- What a fault layer means, and its steps over those of the driver below.
use Rattle.std.specs.Prelude.{◌≡◌, min, true, false, Some, None, Option}
use Rattle.model.specs.Rules.{Rules}
use Rattle.model.specs.declared.refusal.Fault.{Fault}
use Rattle.driver.specs.States.{State, bare}
use Rattle.driver.specs.Calls.{Call, Reply, set, join, leave, submit, collect, stop, restart, accepted, failed, Fallible}
use Rattle.driver.specs.Replies.{pair, pair_of, Refuses}
use Rattle.fault.specs.declared.parts.Plan.{Plan}
use Rattle.fault.specs.declared.parts.Faulty.{Faulty}
use Rattle.fault.specs.declared.parts.Way.TheVariants.{Unmade, Dropped}
use Rattle.fault.specs.Plans.{failure, turn, counted, shut, opened, heeded}

-- the call that is made below and whose answer is dropped: a collect has a buffer of the layer's own, as long as
-- the caller's up to the longest answer of any class
abbrev pub dropping : Call → Call
dropping (set k v) = set k v
dropping (join n) = join n
dropping (leave n) = leave n
dropping (submit q) = submit q
dropping (collect room) = collect (min room 1514)
dropping stop = stop
dropping restart = restart

module _ {D : Type 0} where
  abbrev pub made : Option Fault → Plan → D → Faulty D
  made o p d = record { down = o; plan = p; below = d }

module _ {D : Type 0} (u : Rules) (state : D → State) where
  -- what a layer means over a driver: up, what the driver means; down with a pair, that it is bare, with the driver's
  -- reach and contents
  abbrev pub state_at : Option Fault → D → State
  state_at None d = state d
  state_at (Some _) d = bare u false (state d).reach (state d).contents

  abbrev pub layer_state : Faulty D → State
  layer_state s = state_at s.down s.below

module _ {D : Type 0} (fault : D → Fault) where
  -- the pair that a layer answers while it is down; up, that of the driver below
  abbrev pub fault_at : Option Fault → D → Fault
  fault_at None d = fault d
  fault_at (Some f) _ = f

  abbrev pub layer_fault : Faulty D → Fault
  layer_fault s = fault_at s.down s.below

module _ {D : Type 0} where
  -- a layer that is well formed: the driver below is, and is up while the layer is
  pub record LayerOk (state : D → State) (ok : D → Type 0) (s : Faulty D) : Type 0 where
    pub inner : ok s.below
    pub alive : s.down ≡ opened → (state s.below).up ≡ true

  pub data Steps (steps : D → Call → Reply → D → Type 0) : Faulty D → Call → Reply → Faulty D → Type 0 where
    -- a call of a layer that is down: nothing is made below and nothing counted
    dead : {s t : Faulty D} {k : Call} (f : Fault) → Fallible k → s.down ≡ shut f → t ≡ s → Steps steps s k (failed f.layer f.place) t
    -- the call that fails, in way 0 and in another
    unmade : {s t : Faulty D} {k : Call} (f : Fault) → Fallible k → s.down ≡ opened → turn s.plan ≡ Some (failure Unmade f)
        → t ≡ made (shut f) (counted s.plan) s.below → Steps steps s k (failed f.layer f.place) t
    dropped : {s t : Faulty D} {k : Call} (f : Fault) (r : Reply) (d : D) → Fallible k → s.down ≡ opened → turn s.plan ≡ Some (failure Dropped f)
        → steps s.below (dropping k) r d → t ≡ made (shut f) (counted s.plan) d → Steps steps s k (failed f.layer f.place) t
    -- any other call passes through, and FAILED from below takes the layer down
    passed : {s t : Faulty D} {k : Call} {r : Reply} (d : D) → Fallible k → s.down ≡ opened → turn s.plan ≡ None
        → steps s.below k r d → t ≡ made (heeded s.down (pair_of r)) (counted s.plan) d → Steps steps s k r t
    stopped : {s t : Faulty D} (d : D) → steps s.below stop accepted d → t ≡ made (shut (pair 2 0)) s.plan d → Steps steps s stop accepted t
    restart_unmade : {s t : Faulty D} (f : Fault) → turn s.plan ≡ Some (failure Unmade f)
        → t ≡ made (shut f) (counted s.plan) s.below → Steps steps s restart (failed f.layer f.place) t
    restart_dropped : {s t : Faulty D} (f : Fault) (r : Reply) (d : D) → turn s.plan ≡ Some (failure Dropped f) → steps s.below restart r d
        → t ≡ made (shut f) (counted s.plan) d → Steps steps s restart (failed f.layer f.place) t
    restarted : {s t : Faulty D} (d : D) → turn s.plan ≡ None → steps s.below restart accepted d
        → t ≡ made opened (counted s.plan) d → Steps steps s restart accepted t
    restart_refused : {s t : Faulty D} {r : Reply} (d : D) → Refuses r → turn s.plan ≡ None → steps s.below restart r d
        → t ≡ made (heeded s.down (pair_of r)) (counted s.plan) d → Steps steps s restart r t
