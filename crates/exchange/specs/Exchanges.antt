-- A request that is submitted to a driver and then collected.
use Rattle.std.specs.Prelude.{◌≡◌, ℕ, true, false, List, [], ◌∷◌, Some, None}
use Rattle.model.specs.Requests.{Request, Contents}
use Rattle.model.specs.Rules.{Rules}
use Rattle.model.specs.declared.refusal.Fault.{Fault}
use Rattle.driver.specs.States.{State, holding}
use Rattle.driver.specs.Calls.{Call, Reply, submit, collect, accepted, done, lost, notyet, failed, refused}
use Rattle.driver.specs.Replies.{Refuses, pair}
use Rattle.driver.specs.Rules.{tests, first, after, Perhaps}

-- the calls that an exchange makes, by the driver's own steps: a submit that is refused, or one that is accepted
-- and then a collect
pub data Exchanged {D : Type 0} (steps : D → Call → Reply → D → Type 0) (s : D) (q : Request) (room : ℕ) : Reply → D → Type 0 where
  turned_away : {r : Reply} {t : D} → Refuses r → steps s (submit q) r t → Exchanged steps s q room r t
  collected : {r : Reply} {t : D} (m : D) → steps s (submit q) accepted m → steps m (collect room) r t → Exchanged steps s q room r t

-- what an exchange comes to with a driver at which nothing waits, where f is the pair that it answers after it
-- while it is down
pub data Answered (u : Rules) (s : State) (q : Request) (room : ℕ) (f : Fault) : Reply → State → Type 0 where
  -- performed once, and answered
  is_done : {t : State} {n : ℕ} {bytes : List ℕ} → s.up ≡ true → n ≡ q.tag → bytes ≡ (after u s q).answer
      → t ≡ holding s [] (after u s q).contents → Answered u s q room f (done n bytes) t
  -- gone, performed or not: only a kind that is not declared
  is_lost : {t : State} {n : ℕ} (x : Contents) → s.up ≡ true → n ≡ q.tag → u.declared q.kind ≡ false → Perhaps u s q x
      → t ≡ holding s [] x → Answered u s q room f (lost n) t
  -- still waiting, performed or not
  is_open : {t : State} (x : Contents) → s.up ≡ true → Perhaps u s q x → t ≡ holding s (q ∷ []) x → Answered u s q room f notyet t
  -- the driver is down, and the request was performed or not
  is_failed : {t : State} {a b : ℕ} (x : Contents) → f ≡ pair a b → t.up ≡ false → t.reach ≡ s.reach → t.contents ≡ x → Perhaps u s q x
      → Answered u s q room f (failed a b) t
  -- the class or the tables refuse the request, and nothing changes
  is_refused : {t : State} (n : ℕ) → s.up ≡ true → first (tests u s (submit q)) ≡ Some n → t ≡ s → Answered u s q room f (refused n) t
  -- the buffer is too short, and the request waits
  is_short : {t : State} (n : ℕ) → s.up ≡ true → first (tests u s (submit q)) ≡ None → first (tests u s (collect room)) ≡ Some n
      → t ≡ holding s (q ∷ []) s.contents → Answered u s q room f (refused n) t
