-- The fault layer's steps keep the driver rules, and its pairs are what they should be.
use Rattle.std.specs.Prelude.{◌≡◌, ℕ, Bool, true, false, Some, None, Option, ◌≢◌, refl}
use Rattle.std.proofs.Common.{ap, sym, ◌∙◌, subst, subst₂, inl, inr}
use Rattle.std.proofs.lemmas.Bool.{cases_Bool, both_ways}
use Rattle.std.proofs.lemmas.Option.{none-some}
use Rattle.model.specs.Requests.{Contents}
use Rattle.model.specs.Rules.{Rules}
use Rattle.model.specs.declared.refusal.Fault.{Fault}
use Rattle.driver.specs.States.{State, bare}
use Rattle.driver.specs.Calls.{Call, Reply, Fallible, set, join, leave, submit, collect, stop, restart, accepted, done, lost, idle, notyet, failed, refused}
use Rattle.driver.specs.Rules.{Rule, Spoiled, untouched, is_down, fails, stops, restarts, restart_fails}
use Rattle.driver.specs.Replies.{pair, pair_of, Refuses}
use Rattle.driver.proofs.Facts
use Rattle.fault.specs.declared.parts.Faulty.{Faulty}
use Rattle.fault.specs.declared.parts.Plan.{Plan}
use Rattle.fault.specs.Plans.{counted, shut, opened, heeded}
use Rattle.fault.specs.Layers.{Steps, dropping, made, state_at, fault_at, layer_state, layer_fault, LayerOk, dead, unmade, dropped, passed, stopped, restart_unmade, restart_dropped, restarted, restart_refused}

-- what is dropped spoils no more than the call would
spoiled : (u : Rules) {s : State} (k : Call) {x : Contents} → Spoiled u s (dropping k) x → Spoiled u s k x
spoiled u (set k v) h = h
spoiled u (join n) h = h
spoiled u (leave n) h = h
spoiled u (submit q) h = h
spoiled u (collect room) h = Facts.other_room h
spoiled u stop h = h
spoiled u restart h = h

still_fallible : (k : Call) → Fallible k → Fallible (dropping k)
still_fallible (set k v) f = f
still_fallible (join n) f = f
still_fallible (leave n) f = f
still_fallible (submit q) f = f
still_fallible (collect room) f = f
still_fallible stop f = f
still_fallible restart f = f

module _ {D : Type 0} (u : Rules) (state : D → State) (ok : D → Type 0) (steps : D → Call → Reply → D → Type 0)
    (keeps : (s : D) (c : Call) (r : Reply) (t : D) → ok s → steps s c r t → Rule u (state s) c r (state t))
    (stays : (s : D) (c : Call) (r : Reply) (t : D) → ok s → steps s c r t → ok t)
    (empty : (s : D) → ok s → (state s).up ≡ false → state s ≡ bare u false (state s).reach (state s).contents) where
  abbrev st : Faulty D → State
  st = layer_state u state

  abbrev bared : State → State
  bared x = bare u false x.reach x.contents

  up : (s : Faulty D) → s.down ≡ opened → st s ≡ state s.below
  up s h = ap (λ x. state_at u state x s.below) h

  down : (s : Faulty D) {f : Fault} → s.down ≡ shut f → st s ≡ bared (state s.below)
  down s h = ap (λ x. state_at u state x s.below) h

  st_reach : (s : Faulty D) → (st s).reach ≡ (state s.below).reach
  st_reach s = elim s.down as (λ x. (state_at u state x s.below).reach ≡ (state s.below).reach) [ None ↦ refl | Some f ↦ refl ]

  st_contents : (s : Faulty D) → (st s).contents ≡ (state s.below).contents
  st_contents s = elim s.down as (λ x. (state_at u state x s.below).contents ≡ (state s.below).contents) [ None ↦ refl | Some f ↦ refl ]

  -- a failure of the layer's own, where the driver below ends in any state that a call below can lead to
  falls : (x y : State) (k : Call) (a b : ℕ) → Fallible k → y.reach ≡ x.reach → Spoiled u x k y.contents → (x.up ≡ false → (y ≡ x) × (x ≡ bared x)) → Rule u x k (failed a b) (bared y)
  falls x y k a b f e p q =
      elim (cases_Bool x.up) [
        | inl h ↦ fails a b y.contents f h p (ap (λ n. bare u false n y.contents) e)
        | inr h ↦ is_down a b f h (ap bared (q h).0 ∙ sym (q h).1)
      ]

  from_up : (s t : Faulty D) (k : Call) (r : Reply) (y : State) → s.down ≡ opened → st t ≡ y → Rule u (state s.below) k r y → Rule u (st s) k r (st t)
  from_up s t k r y h e p = subst₂ (λ (a b : State). Rule u a k r b) (sym (up s h)) (sym e) p

  -- after a failure below, the layer means what the driver below does
  fell : (d : D) → ok d → (state d).up ≡ false → bared (state d) ≡ state d
  fell d o h = sym (empty d o h)

  pass : (s t : Faulty D) (k : Call) (r : Reply) (d : D) (x : Option Fault) → pair_of r ≡ x → s.down ≡ opened → ok d → Rule u (state s.below) k r (state d) → t ≡ made (heeded s.down x) (counted s.plan) d → Rule u (st s) k r (st t)
  pass s t k r d None z h o p e = from_up s t k r (state d) h (ap st e ∙ up (made s.down (counted s.plan) d) h) p
  pass s t k r d (Some f) z h o p e = from_up s t k r (state d) h (ap st e ∙ fell d o (is_failed r f z p)) p
    where
      is_failed : (r : Reply) (f : Fault) → pair_of r ≡ Some f → Rule u (state s.below) k r (state d) → (state d).up ≡ false
      is_failed accepted f z p = absurd (none-some _ z)
      is_failed (done n x) f z p = absurd (none-some _ z)
      is_failed (lost n) f z p = absurd (none-some _ z)
      is_failed idle f z p = absurd (none-some _ z)
      is_failed notyet f z p = absurd (none-some _ z)
      is_failed (failed a b) f z p = Facts.failed_down p
      is_failed (refused n) f z p = absurd (none-some _ z)

  -- bare with what is left of the state before
  bare_of : (s : Faulty D) (b : Bool) (y : State) → y.reach ≡ (state s.below).reach → y.contents ≡ (state s.below).contents → bare u b y.reach y.contents ≡ bare u b (st s).reach (st s).contents
  bare_of s b y e f = λ i. bare u b ((e ∙ sym (st_reach s)) i) ((f ∙ sym (st_contents s)) i)

  again : (s t : Faulty D) (r : Reply) (d : D) → Refuses r → Rule u (state s.below) restart r (state d) → t ≡ made (heeded s.down (pair_of r)) (counted s.plan) d → Rule u (st s) restart r (st t)
  again s t accepted d f q e = absurd f
  again s t (done n x) d f q e = absurd f
  again s t (lost n) d f q e = absurd f
  again s t idle d f q e = absurd f
  again s t notyet d f q e = absurd f
  again s t (failed a b) d f q e = restart_fails a b (ap st e ∙ bare_of s false (state d) (Facts.same_reach q) (Facts.restart_contents q))
  again s t (refused n) d f q e = absurd (Facts.restart_not q)

  abbrev Fine : Faulty D → Type 0
  Fine = LayerOk state ok

  pub law : (s : Faulty D) (c : Call) (r : Reply) (t : Faulty D) → Fine s → Steps steps s c r t → Rule u (st s) c r (st t)
  law s c r t o (dead p f h e) = is_down _ _ f (ap (λ (x : State). x.up) (down s h)) (ap st e)
  law s c r t o (unmade f' f h n e) = from_up s t c r (bared (state s.below)) h (ap st e) (falls (state s.below) (state s.below) c f'.layer f'.place f refl (untouched refl) (λ z. (refl, empty s.below o.inner z)))
  law s c r t o (dropped f' x d f h n p e) =
      let q = keeps _ _ _ _ o.inner p in
      from_up s t c r (bared (state d)) h (ap st e) (falls (state s.below) (state d) c f'.layer f'.place f (Facts.same_reach q) (spoiled u c (Facts.spoils (still_fallible c f) q)) (λ z. (Facts.down_stays (still_fallible c f) z q, empty s.below o.inner z)))
  law s c r t o (passed d f h n p e) = pass s t c r d (pair_of r) refl h (stays _ _ _ _ o.inner p) (keeps _ _ _ _ o.inner p) e
  law s c r t o (stopped d p e) = let q = Facts.stopped (keeps _ _ _ _ o.inner p) in stops (ap st e ∙ bare_of s false (state d) (ap (λ (x : State). x.reach) q) (ap (λ (x : State). x.contents) q))
  law s c r t o (restart_unmade f n e) = restart_fails _ _ (ap st e ∙ bare_of s false (state s.below) refl refl)
  law s c r t o (restart_dropped f x d n p e) = let q = keeps _ _ _ _ o.inner p in restart_fails _ _ (ap st e ∙ bare_of s false (state d) (Facts.same_reach q) (Facts.restart_contents q))
  law s c r t o (restarted d n p e) = restarts (ap st e ∙ (Facts.restarted (keeps _ _ _ _ o.inner p) ∙ bare_of s true (state s.below) refl refl))
  law s c r t o (restart_refused d f n p e) = again s t r d f (keeps _ _ _ _ o.inner p) e

  -- a layer that is down is well formed if the driver below is
  closed : (p : Plan) (f : Fault) (d : D) → ok d → Fine (made (shut f) p d)
  closed p f d o = record { inner = o; alive = λ h. absurd (none-some _ (sym h)) }

  heeds : (s : Faulty D) (p : Plan) (d : D) (x : Option Fault) → ok d → (x ≡ None → s.down ≡ opened → (state d).up ≡ true) → Fine (made (heeded s.down x) p d)
  heeds s p d None o h = record { inner = o; alive = h refl }
  heeds s p d (Some f) o h = closed p f d o

  moved : {s t : Faulty D} → t ≡ s → Fine s → Fine t
  moved e o = subst Fine (sym e) o

  none_or_refused : (r : Reply) → Refuses r → pair_of r ≡ None → (n : ℕ) × (r ≡ refused n)
  none_or_refused accepted f n = absurd f
  none_or_refused (done m x) f n = absurd f
  none_or_refused (lost m) f n = absurd f
  none_or_refused idle f n = absurd f
  none_or_refused notyet f n = absurd f
  none_or_refused (failed a b) f n = absurd (none-some _ (sym n))
  none_or_refused (refused m) f n = (m, refl)

  not_refused : (s d : D) (r : Reply) → Refuses r → pair_of r ≡ None → Rule u (state s) restart r (state d) → ⊥
  not_refused s d r f n q = let w = none_or_refused r f n in Facts.restart_not (subst (λ (x : Reply). Rule u (state s) restart x (state d)) w.1 q)

  pub stay : (s : Faulty D) (c : Call) (r : Reply) (t : Faulty D) → Fine s → Steps steps s c r t → Fine t
  stay s c r t o (dead p f h e) = moved e o
  stay s c r t o (unmade f' f h n e) = moved e (closed (counted s.plan) f' s.below o.inner)
  stay s c r t o (dropped f' x d f h n p e) = moved e (closed (counted s.plan) f' d (stays _ _ _ _ o.inner p))
  stay s c r t o (passed d f h n p e) = moved e (heeds s (counted s.plan) d (pair_of r) (stays _ _ _ _ o.inner p) (λ z _. Facts.stays_up f (o.alive h) z (keeps _ _ _ _ o.inner p)))
  stay s c r t o (stopped d p e) = moved e (closed s.plan (pair 2 0) d (stays _ _ _ _ o.inner p))
  stay s c r t o (restart_unmade f n e) = moved e (closed (counted s.plan) f s.below o.inner)
  stay s c r t o (restart_dropped f x d n p e) = moved e (closed (counted s.plan) f d (stays _ _ _ _ o.inner p))
  stay s c r t o (restarted d n p e) =
      moved e (record { inner = stays _ _ _ _ o.inner p; alive = λ _. ap (λ (x : State). x.up) (Facts.restarted (keeps _ _ _ _ o.inner p)) })
  stay s c r t o (restart_refused d f n p e) =
      moved e (heeds s (counted s.plan) d (pair_of r) (stays _ _ _ _ o.inner p) (λ z _. absurd (not_refused s.below d r f z (keeps _ _ _ _ o.inner p))))

  pub empties : (s : Faulty D) → Fine s → (st s).up ≡ false → st s ≡ bare u false (st s).reach (st s).contents
  empties s o = by s.down
    where
      at : Option Fault → State
      at x = state_at u state x s.below

      by : (x : Option Fault) → (at x).up ≡ false → at x ≡ bared (at x)
      by None h = empty s.below o.inner h
      by (Some f) h = refl

  -- a layer that is not down is up
  not_down : (s : Faulty D) → Fine s → (st s).up ≡ false → s.down ≢ opened
  not_down s o z h = both_ways _ (sym (ap (λ (x : State). x.up) (up s h)) ∙ z) (o.alive h)

  module _ (fault : D → Fault) where
    -- a layer that is down repeats its pair
    pub repeated : (s : Faulty D) (c : Call) (a b : ℕ) (t : Faulty D) → Fine s → (st s).up ≡ false → Fallible c → Steps steps s c (failed a b) t → layer_fault fault s ≡ pair a b
    repeated s c a b t o z f (dead p g h e) = ap (λ x. fault_at fault x s.below) h
    repeated s c a b t o z f (unmade f' g h n e) = absurd (not_down s o z h)
    repeated s c a b t o z f (dropped f' x d g h n p e) = absurd (not_down s o z h)
    repeated s c a b t o z f (passed d g h n p e) = absurd (not_down s o z h)
    repeated s c a b t o z f (restart_unmade f' n e) = absurd f
    repeated s c a b t o z f (restart_dropped f' x d n p e) = absurd f
    repeated s c a b t o z f (restart_refused d r n p e) = absurd f

module _ {D : Type 0} (fault : D → Fault) (steps : D → Call → Reply → D → Type 0) where
  abbrev lf : Faulty D → Fault
  lf = layer_fault fault

  -- the pair of a failure is the layer's from then on
  pub pairs : (s : Faulty D) (c : Call) (a b : ℕ) (t : Faulty D) → Steps steps s c (failed a b) t → lf t ≡ pair a b
  pairs s c a b t (dead p f h e) = ap lf e ∙ ap (λ x. fault_at fault x s.below) h
  pairs s c a b t (unmade f' f h n e) = ap lf e
  pairs s c a b t (dropped f' x d f h n p e) = ap lf e
  pairs s c a b t (passed d f h n p e) = ap lf e
  pairs s c a b t (restart_unmade f n e) = ap lf e
  pairs s c a b t (restart_dropped f x d n p e) = ap lf e
  pairs s c a b t (restart_refused d f n p e) = ap lf e
