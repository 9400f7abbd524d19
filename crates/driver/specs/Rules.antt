-- The rules that every driver keeps.
use Rattle.std.specs.Prelude.{◌≡◌, ℕ, ◌+◌, Bool, true, false, cond, not, ◌⊎◌, List, [], ◌∷◌, ◌++◌, length, Some, None, sum_by, Option, ◌==◌, nat_le, nat_lt}
use Rattle.model.specs.Requests.{Request, Contents, Outcome}
use Rattle.model.specs.Rules.{Rules, has_setting, greatest}
use Rattle.driver.specs.States.{State, setting, membership, level, joined_count, bare, noted, holding}
use Rattle.driver.specs.Calls.{Call, set, join, leave, submit, collect, stop, restart, Reply, accepted, done, lost, idle, notyet, failed, refused, Fallible}

-- a reason to refuse: whether it holds, and the number of the refusal
pub record Test : Type 0 where
  pub holds : Bool
  pub number : ℕ

abbrev pub refuse_if : Bool → ℕ → Test
refuse_if b n = record { holds = b; number = n }

-- the payload bytes of requests, in all
abbrev pub weight : List Request → ℕ
weight qs = sum_by (λ q. length q.payload) qs

-- the reasons to refuse each call of a driver that is up, in the order in which they are tried
abbrev pub tests : Rules → State → Call → List Test
tests u s (set k v) = refuse_if (not (has_setting u k)) 2 ∷ refuse_if (nat_lt (greatest u k) v) 3 ∷ []
tests u s (join n) =
    refuse_if (not (u.name n)) 4
    ∷ refuse_if (cond (s.content membership n == 1) false (nat_le u.limit (joined_count s))) 9 ∷ []
tests u s (leave n) = refuse_if (not (u.name n)) 4 ∷ []
tests u s (submit q) =
    refuse_if (not (u.kind q.kind)) 5
    ∷ refuse_if (nat_le s.reach q.address) 6
    ∷ refuse_if (not (u.takes q.kind (length q.payload))) 7
    ∷ refuse_if (nat_le 16 (length s.waiting)) 10
    ∷ refuse_if (nat_lt 8192 (weight s.waiting + length q.payload)) 11 ∷ []
tests u s (collect room) = refuse_if (nat_lt room u.longest) 8 ∷ []
tests u s stop = []
tests u s restart = []

-- the number of the first reason that holds
abbrev pub first : List Test → Option ℕ
first [] = None
first (t ∷ ts) = cond t.holds (Some t.number) (first ts)

-- what performing a request comes to, at the level that the driver has
abbrev pub after : Rules → State → Request → Outcome
after u s q = u.perform s.contents (level s) q.kind q.address q.payload

-- x is the contents, or what performing q makes of them
abbrev pub Perhaps : Rules → State → Request → Contents → Type 0
Perhaps u s q x = (x ≡ s.contents) ⊎ (x ≡ (after u s q).contents)

-- what a collect comes to that is not refused and does not fail
pub data Collects (u : Rules) (s : State) : Reply → State → Type 0 where
  finds_none : {t : State} → s.waiting ≡ [] → t ≡ s → Collects u s idle t
  finds_done : {t : State} {n : ℕ} {bytes : List ℕ} (q : Request) (qs : List Request) → s.waiting ≡ q ∷ qs
      → n ≡ q.tag → bytes ≡ (after u s q).answer → t ≡ holding s qs (after u s q).contents → Collects u s (done n bytes) t
  -- lost only for a kind that is not declared; the oldest is gone, performed or not
  finds_lost : {t : State} {n : ℕ} (q : Request) (qs : List Request) (x : Contents) → s.waiting ≡ q ∷ qs
      → n ≡ q.tag → u.declared q.kind ≡ false → Perhaps u s q x → t ≡ holding s qs x → Collects u s (lost n) t
  -- not yet changes nothing, but a declared oldest may have been performed
  finds_same : {t : State} (q : Request) (qs : List Request) → s.waiting ≡ q ∷ qs → t ≡ s → Collects u s notyet t
  finds_early : {t : State} (q : Request) (qs : List Request) → s.waiting ≡ q ∷ qs
      → u.declared q.kind ≡ true → t ≡ holding s s.waiting (after u s q).contents → Collects u s notyet t

-- what a failure leaves of the contents: only a collect may have performed its oldest request
pub data Spoiled (u : Rules) (s : State) : Call → Contents → Type 0 where
  untouched : {k : Call} {x : Contents} → x ≡ s.contents → Spoiled u s k x
  performed : {room : ℕ} {x : Contents} (q : Request) (qs : List Request) → s.waiting ≡ q ∷ qs
      → x ≡ (after u s q).contents → Spoiled u s (collect room) x

-- one call of a driver, from its state before to its state after
pub data Rule (u : Rules) : State → Call → Reply → State → Type 0 where
  is_down : {s t : State} {k : Call} (a b : ℕ) → Fallible k → s.up ≡ false → t ≡ s → Rule u s k (failed a b) t
  fails : {s t : State} {k : Call} (a b : ℕ) (x : Contents) → Fallible k → s.up ≡ true → Spoiled u s k x
      → t ≡ bare u false s.reach x → Rule u s k (failed a b) t
  refuses : {s t : State} {k : Call} (n : ℕ) → s.up ≡ true → first (tests u s k) ≡ Some n → t ≡ s → Rule u s k (refused n) t
  sets : {s t : State} {k v : ℕ} → s.up ≡ true → first (tests u s (set k v)) ≡ None
      → t ≡ noted s setting k v → Rule u s (set k v) accepted t
  joins : {s t : State} {n : ℕ} → s.up ≡ true → first (tests u s (join n)) ≡ None
      → t ≡ noted s membership n 1 → Rule u s (join n) accepted t
  leaves : {s t : State} {n : ℕ} → s.up ≡ true → first (tests u s (leave n)) ≡ None
      → t ≡ noted s membership n 0 → Rule u s (leave n) accepted t
  submits : {s t : State} {q : Request} → s.up ≡ true → first (tests u s (submit q)) ≡ None
      → t ≡ holding s (s.waiting ++ (q ∷ [])) s.contents → Rule u s (submit q) accepted t
  collects : {s t : State} {room : ℕ} {r : Reply} → s.up ≡ true → first (tests u s (collect room)) ≡ None
      → Collects u s r t → Rule u s (collect room) r t
  stops : {s t : State} → t ≡ bare u false s.reach s.contents → Rule u s stop accepted t
  restarts : {s t : State} → t ≡ bare u true s.reach s.contents → Rule u s restart accepted t
  restart_fails : {s t : State} (a b : ℕ) → t ≡ bare u false s.reach s.contents → Rule u s restart (failed a b) t
