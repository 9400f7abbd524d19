-- What an intake makes of one frame.
use Rattle.std.specs.Prelude.{◌≡◌, ℕ, ◌<◌, ◌≤◌, List, length, take, Ok, Err, Result}
use Rattle.model.specs.declared.refusal.Fault.{Fault}
use Rattle.driver.specs.States.{State}
use Rattle.driver.specs.Calls.{Call, Reply}
use Rattle.archive.specs.Stores.{Saved}
use Rattle.archive.specs.declared.archive.StoreError.{StoreError}
use Rattle.exchange.specs.declared.silence.Silence.{Silence}
use Rattle.intake.specs.declared.event.Event.{Event}
use Rattle.intake.specs.declared.event.Event.TheVariants.{Ended, Silent, NotStored, Stored, Unacknowledged}
use Rattle.intake.specs.Announcing.{Announced}
use Rattle.intake.specs.Wires.{Received, Acknowledged}

-- a stored frame, by what came of its acknowledgement
abbrev pub stored_event : ℕ → ℕ → Result Unit Silence → Event
stored_event first size (Ok x) = Stored first size
stored_event first size (Err e) = Unacknowledged first size e

-- a size is that of a frame in the buffer
pub record Arrived (buffer : List ℕ) (size : ℕ) : Type 0 where
  pub some : 0 < size
  pub within : size ≤ length buffer

-- what the store makes of the frame that stands in the buffer, from its state and first free block before to those
-- after; without a frame it is not asked
abbrev pub Shelved : State → ℕ → List ℕ → Fault → Event → State → ℕ → Type 0
Shelved s next buffer f Ended t next' = (t ≡ s) × (next' ≡ next)
Shelved s next buffer f (Silent e) t next' = (t ≡ s) × (next' ≡ next)
Shelved s next buffer f (NotStored size error) t next' = Arrived buffer size × Saved s next (take size buffer) f (Err error) t next'
Shelved s next buffer f (Stored first size) t next' = Arrived buffer size × Saved s next (take size buffer) f (Ok first) t next'
Shelved s next buffer f (Unacknowledged first size e) t next' = Arrived buffer size × Saved s next (take size buffer) f (Ok first) t next'

-- what wire and speaker are asked: a frame is announced and acknowledged once, and only if it was stored
pub data Asked {N S : Type 0} (wired : N → Call → Reply → N → Type 0) (sounded : S → Call → Reply → S → Type 0) (w : N) (p : S) (tone buffer buffer' : List ℕ) : Event → N → S → Type 0 where
  asks_silent : {w' : N} {p' : S} {e : Silence} → Received wired w buffer buffer' (Err e) w' → p' ≡ p → Asked wired sounded w p tone buffer buffer' (Silent e) w' p'
  asks_ended : {w' : N} {p' : S} (size : ℕ) → Received wired w buffer buffer' (Ok size) w' → (Arrived buffer' size → ⊥) → p' ≡ p → Asked wired sounded w p tone buffer buffer' Ended w' p'
  asks_only : {w' : N} {p' : S} {size : ℕ} {error : StoreError} → Received wired w buffer buffer' (Ok size) w' → Arrived buffer' size → p' ≡ p
      → Asked wired sounded w p tone buffer buffer' (NotStored size error) w' p'
  asks_all : {w' : N} {p' : S} {e : Event} (first size : ℕ) (m : N) (r : Result Unit Silence)
      → Received wired w buffer buffer' (Ok size) m → Arrived buffer' size → Announced sounded p tone p'
      → Acknowledged wired m (take size buffer') r w' → e ≡ stored_event first size r → Asked wired sounded w p tone buffer buffer' e w' p'
