-- What a store holds after its driver was asked to write or to read a record.
use Rattle.std.proofs.Common.{◌≡◌, ℕ, ◌+◌, ◌*◌, ◌<◌, ◌≤◌, Bool, ◌⊎◌, List, length, take, drop, Ok, Err, Result, sym, refl, ap, ◌∙◌, subst, inl, inr, arith}
use Rattle.std.proofs.lemmas.List.Edits.{paste_none}
use Rattle.model.specs.Requests.{Contents}
use Rattle.model.specs.declared.refusal.Fault.{Fault}
use Rattle.driver.specs.States.{State}
use Rattle.std.specs.Simd.{first_chunks}
use Rattle.std.proofs.lemmas.List.{length-take}
use Rattle.store.specs.Media.{Puts, Finds}
use Rattle.store.specs.Records.{blocks_for, padded, blocks_of}
use Rattle.store.specs.declared.records.Record.{Record}
use Rattle.store.specs.declared.store.StoreError.{StoreError as BelowError}
use Rattle.store.proofs.Recorded.{Unfit, too_long as unfit_long, too_few as unfit_few}
use Rattle.archive.specs.Errors.{from_store}
use Rattle.store.proofs.Turns.{there_after, before_same, padded_length, same_length, some_blocks}
use Rattle.archive.specs.declared.archive.StoreError.{StoreError}
use Rattle.archive.specs.declared.archive.StoreError.TheVariants.{Damaged}
use Rattle.archive.specs.Disks.{disk, with_disk, Stuck, stuck_damaged, Put, put, broke_off, Found, found, not_found, PutsOne, LooksAtOne}
use Rattle.archive.specs.Rooms.{Free, Barred, too_long, too_few, Roomed, has_room, no_room}
use Rattle.archive.specs.Stores.{with_blocks, Holds, Keeps, Saved, saves, breaks_off, Verified, verifies, looks_stuck}
use Rattle.archive.proofs.Putting.{unchanged, puts_all, finds_all}

-- a frame that does not fit on the disk of a driver
pub barred_by : {s : State} {first : ℕ} {frame : List ℕ} {x : BelowError} → Unfit frame first s.reach x → Barred s first frame (from_store x)
barred_by (unfit_long h) = too_long h
barred_by (unfit_few h l) = too_few h l

-- only a disk with less memory than its reach says is found damaged
not_damaged : {f : Fault} {t : State} → Stuck f t Damaged → length (disk t) ≡ t.reach * 512 → ⊥
not_damaged (stuck_damaged h) l = omega arith

module _ (s : State) (next : ℕ) (frame : List ℕ) (short : length frame ≤ 1514) where
  blocks_keep : (k : ℕ) (t : State) → k ≤ 3 → (next + k) * 512 ≤ length (disk s) → t.reach ≡ s.reach → disk t ≡ with_blocks k next frame (disk s) → Keeps next s t
  blocks_keep k t few room r e first other before h =
      let n = padded_length frame short in
      let w = h.within in
      record {
        short = h.short;
        within = subst (λ (m : ℕ). first + blocks_for (length other) ≤ m) (sym r) w;
        there = ap (λ (xs : List ℕ). take (blocks_for (length other) * 512) (drop (first * 512) xs)) e
            ∙ (before_same (disk s) (padded frame) (next * 512) (k * 512) (first * 512) (blocks_for (length other) * 512) (omega arith) (omega arith) (omega arith) ∙ h.there);
      }

  same_blocks : (k : ℕ) (t : State) → k ≡ 0 → t.reach ≡ s.reach → disk t ≡ with_blocks k next frame (disk s) → Keeps next s t
  same_blocks k t z r e first other before h =
      let same : disk t ≡ disk s = e ∙ (ap (λ (i : ℕ). with_blocks i next frame (disk s)) z ∙ sym (paste_none (disk s) (next * 512) (padded frame))) in
      record {
        short = h.short;
        within = subst (λ (m : ℕ). first + blocks_for (length other) ≤ m) (sym r) h.within;
        there = ap (λ (xs : List ℕ). take (blocks_for (length other) * 512) (drop (first * 512) xs)) same ∙ h.there;
      }

  keeps : (k : ℕ) (t : State) → k ≤ 3 → ((next + k) * 512 ≤ length (disk s)) ⊎ (k ≡ 0) → t.reach ≡ s.reach → disk t ≡ with_blocks k next frame (disk s) → Keeps next s t
  keeps k t few (inl room) r e = blocks_keep k t few room r e
  keeps k t few (inr z) r e = same_blocks k t z r e

  pub put_keeps : {t : State} {f : Fault} {r : Result Unit StoreError} → Put s next (blocks_for (length frame)) (padded frame) f r t → Keeps next s t
  put_keeps {t} (put w e) = keeps (blocks_for (length frame)) t (omega arith) w (ap (λ (y : State). y.reach) e) (ap disk e)
  put_keeps {t} (broke_off k h w d e z) = keeps k t (omega arith) w d (ap (λ (x : Contents). x.memory) e)

  -- a write leaves as many bytes as there were
  same_size : (k : ℕ) (t : State) → k ≤ 3 → ((next + k) * 512 ≤ length (disk s)) ⊎ (k ≡ 0) → disk t ≡ with_blocks k next frame (disk s) → length (disk t) ≡ length (disk s)
  same_size k t few (inl room) e = let n = padded_length frame short in same_length (disk s) (padded frame) (disk t) next k e room (omega arith)
  same_size k t few (inr z) e = ap length (e ∙ (ap (λ (i : ℕ). with_blocks i next frame (disk s)) z ∙ sym (paste_none (disk s) (next * 512) (padded frame))))

  pub put_undamaged : {t : State} {f : Fault} → Put s next (blocks_for (length frame)) (padded frame) f (Err Damaged) t → length (disk s) ≡ s.reach * 512 → ⊥
  put_undamaged {t} (broke_off k h w d e z) l = not_damaged z (same_size k t (omega arith) w (ap (λ (x : Contents). x.memory) e) ∙ (l ∙ ap (λ (n : ℕ). n * 512) (sym d)))

  -- the record is there once all its blocks are
  holds : (t : State) → next + blocks_for (length frame) ≤ s.reach → ((next + blocks_for (length frame)) * 512 ≤ length (disk s)) ⊎ (blocks_for (length frame) ≡ 0)
      → t ≡ with_disk s (with_blocks (blocks_for (length frame)) next frame (disk s)) → Holds t next frame
  holds t n (inl room) e =
      let l = padded_length frame short in
      record {
        short = short;
        within = subst (λ (m : ℕ). next + blocks_for (length frame) ≤ m) (sym (ap (λ (y : State). y.reach) e)) n;
        there = ap (λ (y : State). take (blocks_for (length frame) * 512) (drop (next * 512) (disk y))) e
            ∙ there_after (disk s) (padded frame) (next * 512) (blocks_for (length frame) * 512) (omega arith) (omega arith);
      }
  holds t n (inr z) e = absurd (omega arith)

module _ (s : State) (next : ℕ) (frame : List ℕ) (v : Free s next frame) where
  pub put_saves : {t : State} {f : Fault} {x : Unit} (end : ℕ) → end ≡ next + blocks_for (length frame) → Put s next (blocks_for (length frame)) (padded frame) f (Ok x) t → Saved s next frame f (Ok next) t end
  put_saves {t} end c (put w e) = saves v e (holds s next frame v.fitting.short t v.fitting.within w e) c

  pub put_stops : {t : State} {f : Fault} {e : StoreError} → Put s next (blocks_for (length frame)) (padded frame) f (Err e) t → Saved s next frame f (Err e) t next
  put_stops (broke_off k h w d e z) = breaks_off k v (omega arith) d e z refl

  -- looking at the blocks of a record decides whether it is there
  pub found_verifies : {t : State} {f : Fault} {r : Result Bool StoreError} → Found s next (blocks_for (length frame)) (padded frame) f r t → Verified s next frame f r t
  found_verifies (found e d) =
      verifies v ((λ z. record { short = v.fitting.short; within = v.fitting.within; there = d.0 z }), (λ h. d.1 h.there)) (e ∙ sym (unchanged s v.idle))
  found_verifies (not_found d e z) = looks_stuck v d e z

-- what is known once there is room
pub record Ready (s : State) (first : ℕ) (frame : List ℕ) (r : Record) : Type 0 where
  pub free : Free s first frame
  pub count : r.count ≡ blocks_for (length frame)
  pub bytes : r.bytes ≡ padded frame

pub ready : {s : State} {first : ℕ} {frame : List ℕ} {r : Record} → Roomed s first frame (Ok r) → Ready s first frame r
ready (has_room v c b) = record { free = v; count = c; bytes = b }

pub barred : {s : State} {first : ℕ} {frame : List ℕ} {e : StoreError} → Roomed s first frame (Err e) → Barred s first frame e
barred (no_room b) = b

pub barred_undamaged : {s : State} {first : ℕ} {frame : List ℕ} → Barred s first frame Damaged → ⊥
barred_undamaged b = elim b [ ]

-- its blocks, as they are passed on
module _ (first : ℕ) (x : Record) {bs : List (List ℕ)} (near : first + x.count < 4294967296) (e : bs ≡ blocks_of x.count x.bytes) where
  pub in_reach : first + length bs < 4294967296
  in_reach = let n = length-take x.count (first_chunks 512 3 x.bytes) in let l = ap length e in omega arith

  module _ {M N : Type 0} (m t : M) (name : M → N) (ok : M → Type 0) (state : M → State) (fault : M → Fault) {frame : List ℕ} where
    its_blocks : Ready (state m) first frame x → bs ≡ first_chunks 512 (blocks_for (length frame)) (padded frame)
    its_blocks w =
        let h = w.free.fitting.short in
        e ∙ (ap (λ (k : ℕ). blocks_of k x.bytes) w.count ∙ (ap (blocks_of (blocks_for (length frame))) w.bytes ∙ some_blocks (blocks_for (length frame)) (padded frame) (omega arith)))

    pub put_record : {r : Result Unit StoreError} → Puts (PutsOne name ok state fault) m first bs r t → ok m → Ready (state m) first frame x
        → ok t × Put (state m) first (blocks_for (length frame)) (padded frame) (fault t) r (state t)
    put_record {r} p o w =
        let h = w.free.fitting.short in
        let l = padded_length frame h in
        let q = puts_all name ok state fault (blocks_for (length frame)) m t first (padded frame) r (omega arith) o
        (subst (λ (xs : List (List ℕ)). Puts (PutsOne name ok state fault) m first xs r t) (its_blocks w) p) in
        (q.0, q.1 w.free.idle w.free.fitting.within)

    pub found_record : {r : Result Bool StoreError} → Finds (LooksAtOne name ok state fault) m first bs r t → ok m → Ready (state m) first frame x
        → ok t × Found (state m) first (blocks_for (length frame)) (padded frame) (fault t) r (state t)
    found_record {r} p o w =
        let h = w.free.fitting.short in
        let l = padded_length frame h in
        let q = finds_all name ok state fault (blocks_for (length frame)) m t first (padded frame) r (omega arith) o
        (subst (λ (xs : List (List ℕ)). Finds (LooksAtOne name ok state fault) m first xs r t) (its_blocks w) p) in
        (q.0, q.1 w.free.idle w.free.fitting.within)
