-- What a call of a layer comes to, as a step.
use Rattle.std.proofs.Common.{◌≡◌, ℕ, List, Some, None, Ok, Err, Option, Result, MatchOption, refl, sym, ap, ◌∙◌, subst, subst₂}
use Rattle.std.specs.Result.{IsErrAnd}
use Rattle.model.specs.declared.refusal.Fault.{Fault}
use Rattle.model.specs.declared.refusal.Refusal.{Refusal}
use Rattle.model.specs.declared.refusal.Refusal.TheVariants.{Failed, Setting, Value, Name, Kind, Address, Payload, Answer, Roll, Full, Room, Phase, Unfinished}
use Rattle.model.specs.Refusals.{fault_of}
use Rattle.driver.specs.Calls.{Call, Reply, Fallible, restart, accepted, failed}
use Rattle.driver.proofs.Facts.{refusal_refuses}
use Rattle.driver.specs.Replies.{refusal, plain, got, pair_of}
use Rattle.driver.specs.declared.answers.Collected.{Collected}
use Rattle.driver.specs.declared.answers.Collected.TheVariants.{Done, Lost, Idle, NotYet}
use Rattle.fault.specs.declared.parts.Faulty.{Faulty}
use Rattle.fault.specs.declared.parts.Failure.{Failure}
use Rattle.fault.specs.declared.parts.Way.{Way}
use Rattle.fault.specs.declared.parts.Way.TheVariants.{Unmade, Dropped}
use Rattle.fault.specs.Plans.{failure, turn, counted, shut, opened, told, heeded, Fails, Passes}
use Rattle.fault.specs.Layers.{Steps, dropping, made, dead, unmade, dropped, passed, restart_unmade, restart_dropped, restarted, restart_refused}

differ : {A : Type 0} {x : A} {y : Refusal} → ◌≡◌ {A = Result A Refusal} (Ok x) (Err y) → ⊥
differ {A} e = subst (λ (r : Result A Refusal). IsErrAnd r (λ _. Unit {0})) (sym e) tt

-- the pair of a refusal, by its reply
pub refusal_pair : (x : Refusal) → fault_of x ≡ pair_of (refusal x)
refusal_pair (Failed f) = refl
refusal_pair Setting = refl
refusal_pair Value = refl
refusal_pair Name = refl
refusal_pair Kind = refl
refusal_pair Address = refl
refusal_pair Payload = refl
refusal_pair Answer = refl
refusal_pair Roll = refl
refusal_pair Full = refl
refusal_pair Room = refl
refusal_pair Phase = refl
refusal_pair (Unfinished n) = refl

pub plain_told : {A : Type 0} (r : Result A Refusal) → told r ≡ pair_of (plain r)
plain_told (Ok x) = refl
plain_told (Err x) = refusal_pair x

pub got_told : (buffer : List ℕ) (r : Result Collected Refusal) → told r ≡ pair_of (got buffer r)
got_told buffer (Ok (Done t n)) = refl
got_told buffer (Ok (Lost t)) = refl
got_told buffer (Ok Idle) = refl
got_told buffer (Ok NotYet) = refl
got_told buffer (Err x) = refusal_pair x

-- what the check of a layer answers, with the pair of one that is down
abbrev Checks : Option Fault → Result Unit Refusal → Type 0
Checks down m = MatchOption down (m ≡ Ok tt) (λ f. m ≡ Err (Failed f))

-- a check that lets a call through
pub went : (down : Option Fault) (x : Unit) → Checks down (Ok x) → down ≡ opened
went None x h = refl
went (Some f) x h = absurd (differ h)

module _ {D : Type 0} {steps : D → Call → Reply → D → Type 0} where
  -- a call of a layer that is down
  pub refused : {s : Faulty D} {k : Call} (x : Refusal) (y : Reply) → Fallible k → Checks s.down (Err x) → y ≡ refusal x → Steps steps s k y s
  refused {s} {k} x y a h z = by s.down refl h
    where
      by : (m : Option Fault) → s.down ≡ m → Checks m (Err x) → Steps steps s k y s
      by None n h = absurd (differ (sym h))
      by (Some f) n h =
          let e : Err x ≡ Err (Failed f) = h in
          subst (λ (y : Reply). Steps steps s k y s) (sym (z ∙ ap (plain {A = Unit}) e)) (dead f a n refl)

  -- a call that passes through the layer, where z is the pair that its answer tells
  pub going : {s t : Faulty D} {k : Call} {y : Reply} (z : Option Fault) (d : D) → Fallible k → s.down ≡ opened → turn s.plan ≡ None → steps s.below k y d
      → z ≡ pair_of y → t ≡ made (heeded s.down z) (counted s.plan) d → Steps steps s k y t
  going {s} z d a up n h e m = passed d a up n h (m ∙ ap (λ x. made (heeded s.down x) (counted s.plan) d) e)

  -- the call that fails, where drops says what a call with its answer dropped does below
  pub failing : {A : Type 0} {s t : Faulty D} {k : Call} {y : Reply} (call : D → Result A Refusal → D → Type 0) (x : Failure) (d : D) → Fallible k → s.down ≡ opened
      → turn s.plan ≡ Some x → ((r : Result A Refusal) → call s.below r d → (y : Reply) × steps s.below (dropping k) y d)
      → Fails call x.way s.below d → y ≡ failed x.fault.layer x.fault.place → t ≡ made (shut x.fault) (counted s.plan) d → Steps steps s k y t
  failing {A} {s} {t} {k} call x d a up n drops h e m = subst₂ (λ (y : Reply) (t : Faulty D). Steps steps s k y t) (sym e) (sym m) (by x.way n h)
    where
      by : (w : Way) → turn s.plan ≡ Some (failure w x.fault) → Fails call w s.below d
          → Steps steps s k (failed x.fault.layer x.fault.place) (made (shut x.fault) (counted s.plan) d)
      by Unmade n h = unmade x.fault a up n (ap (made (shut x.fault) (counted s.plan)) h)
      by Dropped n h = let y = drops h.0 h.1 in dropped x.fault y.0 d a up n y.1 refl

  -- a call that passes through the layer, or fails
  pub passing : {A : Type 0} {s t : Faulty D} {k : Call} (call : D → Result A Refusal → D → Type 0) (r : Result A Refusal) → Fallible k → dropping k ≡ k → s.down ≡ opened
      → ((r : Result A Refusal) (d : D) → call s.below r d → steps s.below k (plain r) d)
      → Passes call (turn s.plan) s.below r t.below → t ≡ made (heeded s.down (told r)) (counted s.plan) t.below → Steps steps s k (plain r) t
  passing {A} {s} {t} {k} call r a same up does p e = by (turn s.plan) refl p
    where
      drops : (r : Result A Refusal) → call s.below r t.below → (y : Reply) × steps s.below (dropping k) y t.below
      drops r h = (plain r, subst (λ (k : Call). steps s.below k (plain r) t.below) (sym same) (does r t.below h))

      by : (x : Option Failure) → turn s.plan ≡ x → Passes call x s.below r t.below → Steps steps s k (plain r) t
      by None n p = going (told r) t.below a up n (does r t.below p) (plain_told r) e
      by (Some x) n p = failing call x t.below a up n drops p.1 (ap plain p.0) (e ∙ ap (λ r. made (heeded s.down (told r)) (counted s.plan) t.below) p.0)

  -- a restart that the layer or the driver below refuses, where does says what the call does below
  pub restart_refuses : {A : Type 0} {s t : Faulty D} {y : Reply} (call : D → Result A Refusal → D → Type 0) (x : Refusal)
      → ((r : Result A Refusal) (d : D) → call s.below r d → steps s.below restart (plain r) d)
      → Passes call (turn s.plan) s.below (Err x) t.below → t ≡ made (heeded s.down (fault_of x)) (counted s.plan) t.below → y ≡ refusal x → Steps steps s restart y t
  restart_refuses {A} {s} {t} {y} call x does p m e = by (turn s.plan) refl p
    where
      fallen : (f : Fault) → x ≡ Failed f → t ≡ made (shut f) (counted s.plan) t.below
      fallen f z = m ∙ ap (λ x. made (heeded s.down (fault_of x)) (counted s.plan) t.below) z

      by_way : (w : Way) (f : Fault) → turn s.plan ≡ Some (failure w f) → Fails call w s.below t.below → t ≡ made (shut f) (counted s.plan) t.below
          → Steps steps s restart (failed f.layer f.place) t
      by_way Unmade f n h m = restart_unmade f n (m ∙ ap (made (shut f) (counted s.plan)) h)
      by_way Dropped f n h m = restart_dropped f _ t.below n (does h.0 t.below h.1) m

      by : (z : Option Failure) → turn s.plan ≡ z → Passes call z s.below (Err x) t.below → Steps steps s restart y t
      by None n p =
          subst (λ (y : Reply). Steps steps s restart y t) (sym e)
          (restart_refused t.below (refusal_refuses x) n (does (Err x) t.below p) (m ∙ ap (λ z. made (heeded s.down z) (counted s.plan) t.below) (refusal_pair x)))
      by (Some f) n p =
          let z : x ≡ Failed f.fault = cc in
          subst (λ (y : Reply). Steps steps s restart y t) (sym (e ∙ ap refusal z)) (by_way f.way f.fault n p.1 (fallen f.fault z))

  -- a restart that is accepted
  pub restarting : {A : Type 0} {s : Faulty D} (call : D → Result A Refusal → D → Type 0) (x : A) (t : Faulty D)
      → ((r : Result A Refusal) (d : D) → call s.below r d → steps s.below restart (plain r) d)
      → Passes call (turn s.plan) s.below (Ok x) t.below → t ≡ made s.down (counted s.plan) t.below → Steps steps s restart accepted (made opened t.plan t.below)
  restarting {A} {s} call x t does p m = by (turn s.plan) refl p
    where
      by : (z : Option Failure) → turn s.plan ≡ z → Passes call z s.below (Ok x) t.below → Steps steps s restart accepted (made opened t.plan t.below)
      by None n p = restarted t.below n (does (Ok x) t.below p) (ap (λ (t : Faulty D). made opened t.plan t.below) m)
      by (Some f) n p = absurd (differ p.0)
