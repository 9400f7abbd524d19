-- One frame more of a burst.
use Rattle.std.proofs.Common.{◌≡◌, ℕ, ◌+◌, ◌≤◌, List, [], ◌∷◌, length, take, Ok, Err, refl, sym, ap, ◌∙◌, subst, arith}
use Rattle.std.proofs.lemmas.List.{length-take}
use Rattle.std.proofs.lemmas.List.Sums.{sum_by-cons}
use Rattle.model.specs.declared.refusal.Fault.{Fault}
use Rattle.driver.specs.States.{State}
use Rattle.store.specs.Records.{blocks_for}
use Rattle.archive.specs.declared.archive.StoreError.{StoreError}
use Rattle.archive.specs.Stores.{Holds, Keeps, Saved, saves, is_barred, breaks_off}
use Rattle.intake.specs.declared.event.Event.{Event}
use Rattle.intake.specs.declared.event.Event.TheVariants.{Ended, Silent, NotStored, Stored, Unacknowledged}
use Rattle.intake.specs.Intakes.{Shelved, Arrived}
use Rattle.burst.specs.declared.tally.Tally.{Tally}
use Rattle.burst.specs.Counts.{none_yet, added, counted}
use Rattle.burst.specs.Bursts.{Placed, Rows, Left}

-- before the first frame
pub nothing_left : (s : State) (next : ℕ) (tally : Tally) → tally ≡ none_yet → Left s next s next tally
nothing_left s next tally e =
    record {
      placed = [];
      stored = ap (λ (x : Tally). x.stored) e;
      bytes = ap (λ (x : Tally). x.bytes) e;
      stand = refl;
      keeps = λ first frame b h. h;
      grows = omega arith;
    }

still : (m t : State) (start end mid : ℕ) (ps : List Placed) → end ≤ mid → Keeps mid m t → Rows m start end ps → Rows t start end ps
still m t start end mid [] n k h = h
still m t start end mid (p ∷ ps) n k h =
    let e = h.1 in
    (k p.first p.frame (omega arith) h.0, e, still m t start p.first mid ps (omega arith) k h.2)

module _ (s m t : State) (next mid next' : ℕ) (tally : Tally) (w : Left s next m mid tally) (k : Keeps mid m t) where
  -- nothing is lost over two steps
  both : Keeps next s t
  both first frame b h =
      let g = w.grows in
      k first frame (omega arith) (w.keeps first frame b h)

  -- a step that stores nothing
  same : (other : Tally) → other.stored ≡ tally.stored → other.bytes ≡ tally.bytes → next' ≡ mid → Left s next t next' other
  same other a b e =
      let g = w.grows in
      record {
        placed = w.placed;
        stored = a ∙ w.stored;
        bytes = b ∙ w.bytes;
        stand = subst (λ (n : ℕ). Rows t next n w.placed) (sym e) (still m t next mid mid w.placed (omega arith) k w.stand);
        keeps = both;
        grows = omega arith;
      }

  -- a step that stores a frame
  more : (frame : List ℕ) (size : ℕ) → size ≡ length frame → Holds t mid frame → next' ≡ mid + blocks_for (length frame) → Left s next t next' (added tally size)
  more frame size l h e =
      let g = w.grows in
      let p : Placed = record { first = mid; frame = frame } in
      let a = w.stored in
      let b = w.bytes in
      let c = sum_by-cons (λ (x : Placed). length x.frame) p w.placed in
      record {
        placed = p ∷ w.placed;
        stored = omega arith;
        bytes = omega arith;
        stand = (h, e, still m t next mid mid w.placed (omega arith) k w.stand);
        keeps = both;
        grows = omega arith;
      }

  unsaved : {f : Fault} {e : StoreError} (frame : List ℕ) → Saved m mid frame f (Err e) t next' → next' ≡ mid
  unsaved frame (is_barred b x q) = q
  unsaved frame (breaks_off n v c r x z q) = q

  saved : {f : Fault} {first : ℕ} (buffer : List ℕ) (size : ℕ) → Arrived buffer size → Saved m mid (take size buffer) f (Ok first) t next' → Left s next t next' (added tally size)
  saved buffer size a (saves v x h q) =
      let n = length-take size buffer in
      let i = a.within in
      more (take size buffer) size (omega arith) h q

  pub left_more : (f : Fault) (buffer : List ℕ) (event : Event) → Shelved m mid buffer f event t next' → Left s next t next' (counted tally event)
  left_more f buffer Ended h = same tally refl refl h.1
  left_more f buffer (Silent e) h = same tally refl refl h.1
  left_more f buffer (NotStored size error) h = same (counted tally (NotStored size error)) refl refl (unsaved (take size buffer) h.1)
  left_more f buffer (Stored first size) h = saved buffer size h.0 h.1
  left_more f buffer (Unacknowledged first size e) h = saved buffer size h.0 h.1
