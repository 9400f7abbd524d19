-- What a step by the rules says, whatever the reply.
use Rattle.std.proofs.Common.{◌≡◌, ℕ, true, false, List, [], None, Ok, refl, ap, ◌∙◌, inl, inr, arith}
use Rattle.std.proofs.lemmas.Bool.{both_ways}
use Rattle.driver.specs.Replies.{refusal, Refuses, got, pair_of, bytes_of}
use Rattle.model.specs.declared.refusal.Refusal.{Refusal}
use Rattle.model.specs.declared.refusal.Refusal.TheVariants.{Failed, Setting, Value, Name, Kind, Address, Payload, Answer, Roll, Full, Room, Phase, Unfinished}
use Rattle.driver.specs.declared.answers.Collected.{Collected}
use Rattle.driver.specs.declared.answers.Collected.TheVariants.{Done, Lost, Idle, NotYet}
use Rattle.model.specs.Requests.{Contents}
use Rattle.model.specs.Rules.{Rules}
use Rattle.driver.specs.States.{State, bare}
use Rattle.driver.specs.Calls.{Call, Reply, Fallible, collect, stop, restart, accepted, failed, refused}
use Rattle.driver.specs.Rules.{Rule, Collects, Spoiled, untouched, performed, finds_none, finds_done, finds_lost, finds_same, finds_early, is_down, fails, refuses, sets, joins, leaves, submits, collects, stops, restarts, restart_fails}

pub refusal_refuses : (x : Refusal) → Refuses (refusal x)
refusal_refuses (Failed f) = tt
refusal_refuses Setting = tt
refusal_refuses Value = tt
refusal_refuses Name = tt
refusal_refuses Kind = tt
refusal_refuses Address = tt
refusal_refuses Payload = tt
refusal_refuses Answer = tt
refusal_refuses Roll = tt
refusal_refuses Full = tt
refusal_refuses Room = tt
refusal_refuses Phase = tt
refusal_refuses (Unfinished n) = tt

-- what collect answers is no failure
pub collected_fine : (buf : List ℕ) (x : Collected) → pair_of (got buf (Ok x)) ≡ None
collected_fine buf (Done t n) = refl
collected_fine buf (Lost t) = refl
collected_fine buf Idle = refl
collected_fine buf NotYet = refl

-- a refusal answers no bytes
pub refusal_bytes : (x : Refusal) → bytes_of (refusal x) ≡ []
refusal_bytes (Failed f) = refl
refusal_bytes Setting = refl
refusal_bytes Value = refl
refusal_bytes Name = refl
refusal_bytes Kind = refl
refusal_bytes Address = refl
refusal_bytes Payload = refl
refusal_bytes Answer = refl
refusal_bytes Roll = refl
refusal_bytes Full = refl
refusal_bytes Room = refl
refusal_bytes Phase = refl
refusal_bytes (Unfinished n) = refl

module _ {u : Rules} where
  found : {s t : State} {r : Reply} {room : ℕ} → Collects u s r t → Spoiled u s (collect room) t.contents
  found (finds_none w e) = untouched (ap (λ (x : State). x.contents) e)
  found (finds_done q qs w n b e) = performed q qs w (ap (λ (x : State). x.contents) e)
  found {s} {t} (finds_lost q qs x w n d m e) = elim m [
    | inl a ↦ untouched (ap (λ (y : State). y.contents) e ∙ a)
    | inr a ↦ performed q qs w (ap (λ (y : State). y.contents) e ∙ a)
  ]
  found (finds_same q qs w e) = untouched (ap (λ (x : State). x.contents) e)
  found (finds_early q qs w d e) = performed q qs w (ap (λ (x : State). x.contents) e)

  found_reach : {s t : State} {r : Reply} → Collects u s r t → t.reach ≡ s.reach
  found_reach (finds_none w e) = ap (λ (x : State). x.reach) e
  found_reach (finds_done q qs w n b e) = ap (λ (x : State). x.reach) e
  found_reach (finds_lost q qs x w n d m e) = ap (λ (y : State). y.reach) e
  found_reach (finds_same q qs w e) = ap (λ (x : State). x.reach) e
  found_reach (finds_early q qs w d e) = ap (λ (x : State). x.reach) e

  -- the room of the buffer does not matter for what a failure leaves
  pub other_room : {s : State} {m n : ℕ} {x : Contents} → Spoiled u s (collect m) x → Spoiled u s (collect n) x
  other_room (untouched e) = untouched e
  other_room (performed q qs w e) = performed q qs w e

  moved : {s : State} {k : Call} {x y : Contents} → y ≡ x → Spoiled u s k x → Spoiled u s k y
  moved e (untouched h) = untouched (e ∙ h)
  moved e (performed q qs w h) = performed q qs w (e ∙ h)

  pub spoils : {s t : State} {k : Call} {r : Reply} → Fallible k → Rule u s k r t → Spoiled u s k t.contents
  spoils f (is_down a b g h e) = untouched (ap (λ (x : State). x.contents) e)
  spoils f (fails a b x g h p e) = moved (ap (λ (x : State). x.contents) e) p
  spoils f (refuses n h p e) = untouched (ap (λ (x : State). x.contents) e)
  spoils f (sets h p e) = untouched (ap (λ (x : State). x.contents) e)
  spoils f (joins h p e) = untouched (ap (λ (x : State). x.contents) e)
  spoils f (leaves h p e) = untouched (ap (λ (x : State). x.contents) e)
  spoils f (submits h p e) = untouched (ap (λ (x : State). x.contents) e)
  spoils f (collects h p c) = found c
  spoils f (stops e) = absurd f
  spoils f (restarts e) = absurd f
  spoils f (restart_fails a b e) = absurd f

  pub same_reach : {s t : State} {k : Call} {r : Reply} → Rule u s k r t → t.reach ≡ s.reach
  same_reach (is_down a b g h e) = ap (λ (x : State). x.reach) e
  same_reach (fails a b x g h p e) = ap (λ (x : State). x.reach) e
  same_reach (refuses n h p e) = ap (λ (x : State). x.reach) e
  same_reach (sets h p e) = ap (λ (x : State). x.reach) e
  same_reach (joins h p e) = ap (λ (x : State). x.reach) e
  same_reach (leaves h p e) = ap (λ (x : State). x.reach) e
  same_reach (submits h p e) = ap (λ (x : State). x.reach) e
  same_reach (collects h p c) = found_reach c
  same_reach (stops e) = ap (λ (x : State). x.reach) e
  same_reach (restarts e) = ap (λ (x : State). x.reach) e
  same_reach (restart_fails a b e) = ap (λ (x : State). x.reach) e

  -- a down driver stays as it is
  pub down_stays : {s t : State} {k : Call} {r : Reply} → Fallible k → s.up ≡ false → Rule u s k r t → t ≡ s
  down_stays f z (is_down a b g h e) = e
  down_stays f z (fails a b x g h p e) = absurd (both_ways _ z h)
  down_stays f z (refuses n h p e) = e
  down_stays f z (sets h p e) = absurd (both_ways _ z h)
  down_stays f z (joins h p e) = absurd (both_ways _ z h)
  down_stays f z (leaves h p e) = absurd (both_ways _ z h)
  down_stays f z (submits h p e) = absurd (both_ways _ z h)
  down_stays f z (collects h p c) = absurd (both_ways _ z h)
  down_stays f z (stops e) = absurd f
  down_stays f z (restarts e) = absurd f
  down_stays f z (restart_fails a b e) = absurd f

  no_fail : {s t : State} {a b : ℕ} → Collects u s (failed a b) t → ⊥
  no_fail h = elim h [ ]

  -- after a failure a driver is down
  pub failed_down : {s t : State} {k : Call} {a b : ℕ} → Rule u s k (failed a b) t → t.up ≡ false
  failed_down (is_down a b g h e) = ap (λ (x : State). x.up) e ∙ h
  failed_down (fails a b x g h p e) = ap (λ (x : State). x.up) e
  failed_down (collects h p c) = absurd (no_fail c)
  failed_down (restart_fails a b e) = ap (λ (x : State). x.up) e

  -- a restart or a stop leaves the contents
  pub restart_contents : {s t : State} {r : Reply} → Rule u s restart r t → t.contents ≡ s.contents
  restart_contents (is_down a b g h e) = absurd g
  restart_contents (fails a b x g h p e) = absurd g
  restart_contents (refuses n h p e) = ap (λ (x : State). x.contents) e
  restart_contents (restarts e) = ap (λ (x : State). x.contents) e
  restart_contents (restart_fails a b e) = ap (λ (x : State). x.contents) e

  pub restarted : {s t : State} → Rule u s restart accepted t → t ≡ bare u true s.reach s.contents
  restarted (restarts e) = e

  pub restart_not : {s t : State} {n : ℕ} → Rule u s restart (refused n) t → ⊥
  restart_not (refuses n h p e) = let z : ◌≡◌ {A = ℕ} 0 1 = cc in omega arith

  pub stopped : {s t : State} → Rule u s stop accepted t → t ≡ bare u false s.reach s.contents
  stopped (stops e) = e

  -- the same with other contents or requests: up stays up
  found_up : {s t : State} {r : Reply} → Collects u s r t → t.up ≡ s.up
  found_up (finds_none w e) = ap (λ (x : State). x.up) e
  found_up (finds_done q qs w n b e) = ap (λ (x : State). x.up) e
  found_up (finds_lost q qs x w n d m e) = ap (λ (y : State). y.up) e
  found_up (finds_same q qs w e) = ap (λ (x : State). x.up) e
  found_up (finds_early q qs w d e) = ap (λ (x : State). x.up) e

  -- a driver that is up stays up, unless it fails
  pub stays_up : {s t : State} {k : Call} {r : Reply} → Fallible k → s.up ≡ true → pair_of r ≡ None → Rule u s k r t → t.up ≡ true
  stays_up f h n (is_down a b g z e) = absurd (both_ways _ z h)
  stays_up f h n (fails a b x g z p e) = let z : ◌≡◌ {A = ℕ} 0 1 = cc in absurd (omega arith)
  stays_up f h n (refuses m z p e) = ap (λ (x : State). x.up) e ∙ h
  stays_up f h n (sets z p e) = ap (λ (x : State). x.up) e ∙ h
  stays_up f h n (joins z p e) = ap (λ (x : State). x.up) e ∙ h
  stays_up f h n (leaves z p e) = ap (λ (x : State). x.up) e ∙ h
  stays_up f h n (submits z p e) = ap (λ (x : State). x.up) e ∙ h
  stays_up f h n (collects z p c) = found_up c ∙ h
  stays_up f h n (stops e) = absurd f
  stays_up f h n (restarts e) = absurd f
  stays_up f h n (restart_fails a b e) = absurd f
