-- What an exchange comes to, by the driver rules.
use Rattle.std.proofs.Common.{◌≡◌, ℕ, true, false, List, [], ◌∷◌, ◌++◌, None, Err, Result, sym, refl, ap, ◌∙◌, subst, inl, inr, arith}
use Rattle.std.proofs.lemmas.Bool.{both_ways}
use Rattle.model.specs.Requests.{Request, Contents, onto}
use Rattle.model.specs.Rules.{Rules}
use Rattle.driver.specs.States.{State, holding}
use Rattle.driver.specs.Calls.{Call, Reply, submit, collect, accepted, failed}
use Rattle.model.specs.declared.refusal.Fault.{Fault}
use Rattle.model.specs.declared.refusal.Refusal.{Refusal}
use Rattle.driver.specs.Replies.{Refuses, pair, plain, got, bytes_of, Framed}
use Rattle.driver.specs.declared.answers.Collected.{Collected}
use Rattle.driver.proofs.Facts.{refusal_refuses, refusal_bytes}
use Rattle.driver.specs.Rules.{Rule, Collects, untouched, performed, finds_none, finds_done, finds_lost, finds_same, finds_early, is_down, fails, refuses, submits, collects, tests, first, after, Perhaps}
use Rattle.exchange.specs.Exchanges.{Exchanged, Answered, turned_away, collected, is_done, is_lost, is_open, is_failed, is_refused, is_short}

head : {p q : Request} {qs : List Request} → p ∷ [] ≡ q ∷ qs → q ≡ p
head e = cc

tail : {p q : Request} {qs : List Request} → p ∷ [] ≡ q ∷ qs → qs ≡ []
tail e = cc

not_none : {p : Request} → p ∷ [] ≡ [] → ⊥
not_none e = let z : ◌≡◌ {A = ℕ} 0 1 = cc in omega arith

-- the pair of a reply that fails
abbrev Pairs : Fault → Reply → Type 0
Pairs f r = (a b : ℕ) → r ≡ failed a b → f ≡ pair a b

module _ (u : Rules) (f : Fault) where
  -- the state of a driver that has accepted q, and at which nothing else waits
  abbrev taken : State → Request → State
  taken s q = holding s (q ∷ []) s.contents

  -- a driver that went down
  fell : {s t y : State} {q : Request} {room a b : ℕ} (x : Contents) → Pairs f (failed a b) → y.up ≡ false → y.reach ≡ s.reach → y.contents ≡ x → t ≡ y → Perhaps u s q x
      → Answered u s q room f (failed a b) t
  fell {a} {b} x m h r c e p =
      is_failed x (m a b refl) (ap (λ (z : State). z.up) e ∙ h) (ap (λ (z : State). z.reach) e ∙ r) (ap (λ (z : State). z.contents) e ∙ c) p

  -- a submit that is refused
  away : {s t : State} {q : Request} {room : ℕ} {r : Reply} → Pairs f r → Refuses r → Rule u s (submit q) r t → Answered u s q room f r t
  away {s} m z (is_down a b g h e) = fell s.contents m h refl refl e (inl refl)
  away m z (fails a b x g h (untouched p) e) = fell x m refl refl refl e (inl p)
  away m z (refuses n h p e) = is_refused n h p e
  away m z (submits h p e) = absurd z

  same_request : (s : State) {p q : Request} {x : Contents} → q ≡ p → x ≡ (after u s q).contents → x ≡ (after u s p).contents
  same_request s e h = h ∙ ap (λ (k : Request). (after u s k).contents) e

  -- the request after which nothing else waits
  found : {s t : State} {q : Request} {room : ℕ} {r : Reply} → s.up ≡ true → Collects u (taken s q) r t → Answered u s q room f r t
  found h (finds_none w e) = absurd (not_none w)
  found {s} h (finds_done q qs w n b e) =
      is_done h (n ∙ ap (λ (k : Request). k.tag) (head w)) (b ∙ ap (λ (k : Request). (after u s k).answer) (head w))
      (e ∙ (λ i. holding s (tail w i) (after u s (head w i)).contents))
  found {s} h (finds_lost q qs x w n d m e) =
      is_lost x h (n ∙ ap (λ (k : Request). k.tag) (head w)) (sym (ap (λ (k : Request). u.declared k.kind) (head w)) ∙ d)
      (elim m [ inl a ↦ inl a | inr a ↦ inr (same_request s (head w) a) ]) (e ∙ ap (λ (qs : List Request). holding s qs x) (tail w))
  found h (finds_same q qs w e) = is_open _ h (inl refl) e
  found {s} h (finds_early q qs w d e) = is_open _ h (inr (same_request s (head w) refl)) e

  -- the collect after a submit that was accepted
  next : {s t : State} {q : Request} {room : ℕ} {r : Reply} → Pairs f r → s.up ≡ true → first (tests u s (submit q)) ≡ None → Rule u (taken s q) (collect room) r t → Answered u s q room f r t
  next m h p (is_down a b g z e) = absurd (both_ways _ z h)
  next m h p (fails a b x g z (untouched w) e) = fell x m refl refl refl e (inl w)
  next {s} m h p (fails a b x g z (performed q qs w y) e) = fell x m refl refl refl e (inr (same_request s (head w) y))
  next m h p (refuses n z y e) = is_short n h p y e
  next m h p (collects z y c) = found h c

  then : {s m t : State} {q : Request} {room : ℕ} {r : Reply} → Pairs f r → s.waiting ≡ [] → Rule u s (submit q) accepted m → Rule u m (collect room) r t → Answered u s q room f r t
  then {s} {m} {t} {q} {room} {r} z w (submits h p e) c =
      next z h p (subst (λ (x : State). Rule u x (collect room) r t) (e ∙ ap (λ (qs : List Request). holding s (qs ++ (q ∷ [])) s.contents) w) c)

module _ {D : Type 0} (u : Rules) (state : D → State) (fault : D → Fault) (ok : D → Type 0) (steps : D → Call → Reply → D → Type 0)
    (keeps : (s : D) (c : Call) (r : Reply) (t : D) → ok s → steps s c r t → Rule u (state s) c r (state t))
    (stays : (s : D) (c : Call) (r : Reply) (t : D) → ok s → steps s c r t → ok t)
    (pairs : (s : D) (c : Call) (a b : ℕ) (t : D) → ok s → steps s c (failed a b) t → fault t ≡ pair a b) where
  pub still_ok : (s : D) (q : Request) (room : ℕ) (r : Reply) (t : D) → ok s → Exchanged steps s q room r t → ok t
  still_ok s q room r t o (turned_away f p) = stays _ _ _ _ o p
  still_ok s q room r t o (collected m p c) = stays _ _ _ _ (stays _ _ _ _ o p) c

  paired : (s : D) (c : Call) (r : Reply) (t : D) → ok s → steps s c r t → Pairs (fault t) r
  paired s c r t o p a b e = pairs s c a b t o (subst (λ (x : Reply). steps s c x t) e p)

  pub answers : (s : D) (q : Request) (room : ℕ) (r : Reply) (t : D) → ok s → (state s).waiting ≡ [] → Exchanged steps s q room r t → Answered u (state s) q room (fault t) r (state t)
  answers s q room r t o w (turned_away z p) = away u (fault t) (paired _ _ _ _ o p) z (keeps _ _ _ _ o p)
  answers s q room r t o w (collected m p c) =
      then u (fault t) (paired _ _ _ _ (stays _ _ _ _ o p) c) w (keeps _ _ _ _ o p) (keeps _ _ _ _ (stays _ _ _ _ o p) c)

-- a submit that is refused, by what the two calls answer
pub refused_first : {D A : Type 0} (steps : D → Call → Reply → D → Type 0) (s t : D) (q : Request) (room : ℕ) (buffer : List ℕ) (r : Result A Refusal) (r' : Result Collected Refusal) (x : Refusal)
    → r ≡ Err x → r' ≡ Err x → steps s (submit q) (plain r) t → Exchanged steps s q room (got buffer r') t
refused_first steps s t q room buffer r r' x e e' p =
    subst (λ (y : Reply). Exchanged steps s q room y t) (ap plain e ∙ sym (ap (got buffer) e')) (turned_away (subst Refuses (sym (ap plain e)) (refusal_refuses x)) p)

-- it leaves the buffer as it is
pub refused_frame : (buffer : List ℕ) (r : Result Collected Refusal) (x : Refusal) → r ≡ Err x → Framed buffer buffer r
refused_frame buffer r x e = sym (ap (λ (y : Reply). onto (bytes_of y) buffer) (ap (got buffer) e) ∙ ap (λ (bs : List ℕ). onto bs buffer) (refusal_bytes x))
