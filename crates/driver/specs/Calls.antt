-- The calls of a driver, and what they answer.
use Rattle.std.specs.Prelude.{ℕ, List}
use Rattle.model.specs.Requests.{Request}

-- the calls that may change a driver
pub data Call : Type 0 where
  set : ℕ → ℕ → Call  -- a key and a value
  join : ℕ → Call  -- a name
  leave : ℕ → Call  -- a name
  submit : Request → Call
  collect : ℕ → Call  -- the length of the buffer
  stop : Call
  restart : Call

pub data Reply : Type 0 where
  accepted : Reply
  done : ℕ → List ℕ → Reply  -- a tag and the bytes of the answer
  lost : ℕ → Reply  -- a tag
  idle : Reply
  notyet : Reply
  failed : ℕ → ℕ → Reply  -- FAILED, with its pair
  refused : ℕ → Reply  -- any other refusal, by its number

-- the calls that a driver may answer with FAILED while it is up, and always does while it is down
abbrev pub Fallible : Call → Type 0
Fallible (set k v) = Unit {0}
Fallible (join n) = Unit {0}
Fallible (leave n) = Unit {0}
Fallible (submit q) = Unit {0}
Fallible (collect room) = Unit {0}
Fallible stop = ⊥
Fallible restart = ⊥
