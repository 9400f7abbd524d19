-- What a request that the class and the tables allow comes to, by its answer and by what is heard of it.
use Rattle.std.proofs.Common.{◌≡◌, ℕ, ◌+◌, ◌<◌, ◌≤◌, true, false, not, ltb, leb, List, [], ◌∷◌, length, take, None, Ok, Err, Result, sym, ap, ◌∙◌, subst, arith}
use Rattle.std.proofs.lemmas.Bool.{cond-false, le-ltb, lt-leb}
use Rattle.model.specs.Requests.{Request, Contents}
use Rattle.model.specs.Rules.{Rules}
use Rattle.model.specs.declared.refusal.Fault.{Fault}
use Rattle.model.specs.declared.refusal.Refusal.{Refusal}
use Rattle.model.specs.declared.refusal.Refusal.TheVariants.{Failed, Setting, Value, Name, Kind, Address, Payload, Answer, Roll, Full, Room, Phase, Unfinished}
use Rattle.driver.specs.States.{State, holding}
use Rattle.driver.specs.Calls.{Call, Reply, submit, collect, failed, refused, idle}
use Rattle.driver.specs.Replies.{got}
use Rattle.driver.specs.Rules.{tests, first, after, weight, Perhaps}
use Rattle.driver.specs.declared.answers.Collected.{Collected}
use Rattle.driver.specs.declared.answers.Collected.TheVariants.{Done, Lost, Idle, NotYet}
use Rattle.exchange.specs.declared.silence.Silence.{Silence}
use Rattle.exchange.specs.declared.silence.Silence.TheVariants.{Refused, Unanswered}
use Rattle.exchange.specs.Hearing.{heard_of, Heard}
use Rattle.exchange.specs.Exchanges.{Answered, is_done, is_lost, is_open, is_failed, is_refused, is_short}

-- by the answer that the code sees
pub data Settled (u : Rules) (s : State) (q : Request) (f : Fault) (buffer : List ℕ) : Result Collected Refusal → State → Type 0 where
  settled_done : {t : State} {tag n : ℕ} → s.up ≡ true → tag ≡ q.tag → take n buffer ≡ (after u s q).answer → t ≡ holding s [] (after u s q).contents
      → Settled u s q f buffer (Ok (Done tag n)) t
  settled_lost : {t : State} {tag : ℕ} (x : Contents) → s.up ≡ true → u.declared q.kind ≡ false → Perhaps u s q x → t ≡ holding s [] x
      → Settled u s q f buffer (Ok (Lost tag)) t
  settled_open : {t : State} (x : Contents) → s.up ≡ true → Perhaps u s q x → t ≡ holding s (q ∷ []) x → Settled u s q f buffer (Ok NotYet) t
  settled_failed : {t : State} {g : Fault} (x : Contents) → g ≡ f → t.up ≡ false → t.reach ≡ s.reach → t.contents ≡ x → Perhaps u s q x
      → Settled u s q f buffer (Err (Failed g)) t

-- by what is heard of it
pub data Came (u : Rules) (s : State) (q : Request) (f : Fault) (buffer : List ℕ) : Result ℕ Silence → State → Type 0 where
  came_done : {t : State} {n : ℕ} → s.up ≡ true → take n buffer ≡ (after u s q).answer → t ≡ holding s [] (after u s q).contents → Came u s q f buffer (Ok n) t
  came_lost : {t : State} (x : Contents) → s.up ≡ true → u.declared q.kind ≡ false → Perhaps u s q x → t ≡ holding s [] x → Came u s q f buffer (Err Unanswered) t
  came_open : {t : State} (x : Contents) → s.up ≡ true → Perhaps u s q x → t ≡ holding s (q ∷ []) x → Came u s q f buffer (Err Unanswered) t
  came_failed : {t : State} {g : Fault} (x : Contents) → g ≡ f → t.up ≡ false → t.reach ≡ s.reach → t.contents ≡ x → Perhaps u s q x
      → Came u s q f buffer (Err (Refused (Failed g))) t

heard_settled : {u : Rules} {s : State} {q : Request} {f : Fault} {buffer : List ℕ} {r : Result Collected Refusal} {t : State} → Settled u s q f buffer r t → Came u s q f buffer (heard_of r) t
heard_settled (settled_done h m b e) = came_done h b e
heard_settled (settled_lost x h d p e) = came_lost x h d p e
heard_settled (settled_open x h p e) = came_open x h p e
heard_settled (settled_failed x m h r c p) = came_failed x m h r c p

module _ (u : Rules) (s : State) (q : Request) (room : ℕ) (f : Fault) (buffer : List ℕ) (t : State)
    (taken : first (tests u s (submit q)) ≡ None) (long : first (tests u s (collect room)) ≡ None) where
  never : {n : ℕ} → Answered u s q room f (refused n) t → ⊥
  never (is_refused n h p e) = let z : ◌≡◌ {A = ℕ} 0 1 = cc in omega arith
  never (is_short n h p w e) = let z : ◌≡◌ {A = ℕ} 0 1 = cc in omega arith

  not_idle : Answered u s q room f idle t → ⊥
  not_idle h = elim h [ ]

  done_settled : {tag n : ℕ} → Answered u s q room f (got buffer (Ok (Done tag n))) t → Settled u s q f buffer (Ok (Done tag n)) t
  done_settled (is_done h m b e) = settled_done h m b e

  lost_settled : {tag : ℕ} → Answered u s q room f (got buffer (Ok (Lost tag))) t → Settled u s q f buffer (Ok (Lost tag)) t
  lost_settled (is_lost x h m d p e) = settled_lost x h d p e

  open_settled : Answered u s q room f (got buffer (Ok NotYet)) t → Settled u s q f buffer (Ok NotYet) t
  open_settled (is_open x h p e) = settled_open x h p e

  failed_settled : {g : Fault} → Answered u s q room f (failed g.layer g.place) t → Settled u s q f buffer (Err (Failed g)) t
  failed_settled (is_failed x m h r c p) = settled_failed x (sym m) h r c p

  pub settled : (r : Result Collected Refusal) → Answered u s q room f (got buffer r) t → Settled u s q f buffer r t
  settled (Ok (Done tag n)) h = done_settled h
  settled (Ok (Lost tag)) h = lost_settled h
  settled (Ok Idle) h = absurd (not_idle h)
  settled (Ok NotYet) h = open_settled h
  settled (Err (Failed g)) h = failed_settled h
  settled (Err Setting) h = absurd (never h)
  settled (Err Value) h = absurd (never h)
  settled (Err Name) h = absurd (never h)
  settled (Err Kind) h = absurd (never h)
  settled (Err Address) h = absurd (never h)
  settled (Err Payload) h = absurd (never h)
  settled (Err Answer) h = absurd (never h)
  settled (Err Roll) h = absurd (never h)
  settled (Err Full) h = absurd (never h)
  settled (Err Room) h = absurd (never h)
  settled (Err Phase) h = absurd (never h)
  settled (Err (Unfinished n)) h = absurd (never h)

  pub came : (r : Result Collected Refusal) → Answered u s q room f (got buffer r) t → Came u s q f buffer (heard_of r) t
  came r h = heard_settled (settled r h)

-- a submit that no test refuses, where nothing waits
pub taken_first : (u : Rules) (s : State) (q : Request) → s.waiting ≡ [] → u.kind q.kind ≡ true → q.address < s.reach → u.takes q.kind (length q.payload) ≡ true
    → length q.payload ≤ 8192 → first (tests u s (submit q)) ≡ None
taken_first u s q w k a p n =
    let few : leb 16 (length s.waiting) ≡ false = ap (λ (qs : List Request). leb 16 (length qs)) w in
    let light : ltb 8192 (weight s.waiting + length q.payload) ≡ false = ap (λ (qs : List Request). ltb 8192 (weight qs + length q.payload)) w ∙ le-ltb _ _ (omega arith) in
    cond-false _ _ _ (ap not k) ∙ (cond-false _ _ _ (lt-leb _ _ a) ∙ (cond-false _ _ _ (ap not p) ∙ (cond-false _ _ _ few ∙ cond-false _ _ _ light)))

-- a collect whose buffer is long enough
pub long_enough : (u : Rules) (s : State) (room : ℕ) → u.longest ≤ room → first (tests u s (collect room)) ≡ None
long_enough u s room h = cond-false _ _ _ (le-ltb _ _ h)

-- what is heard of a request that is taken, over a buffer that is long enough, where nothing waits
pub heard_came : {D : Type 0} {u : Rules} {state : D → State} {fault : D → Fault} {steps : D → Call → Reply → D → Type 0} {s t : D} {q : Request} {buffer buffer' : List ℕ} {r : Result ℕ Silence}
    → Heard u state fault steps s q buffer buffer' r t → (state s).waiting ≡ [] → u.kind q.kind ≡ true → q.address < (state s).reach → u.takes q.kind (length q.payload) ≡ true
    → length q.payload ≤ 8192 → u.longest ≤ length buffer → Came u (state s) q (fault t) buffer' r (state t)
heard_came {u} {state} {fault} {s} {t} {q} {buffer} {buffer'} h w k a p n l =
    subst (λ (x : Result ℕ Silence). Came u (state s) q (fault t) buffer' x (state t)) (sym h.heard)
    (came u (state s) q (length buffer) (fault t) buffer' (state t) (taken_first u (state s) q w k a p n) (long_enough u (state s) (length buffer) l) h.reply (h.answer w))
