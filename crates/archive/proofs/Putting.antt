-- Blocks that are written and read back, one after the other.
use Rattle.std.proofs.Common.{◌≡◌, ℕ, zero, suc, ◌+◌, ◌*◌, ◌<◌, ◌≤◌, Bool, true, false, ◌⊎◌, List, [], ◌++◌, length, take, drop, Ok, Err, Result, sym, refl, ap, ◌∙◌, subst, inl, inr, arith}
use lib.Seq.{paste}
use Rattle.std.proofs.lemmas.List.Edits.{paste_none}
use Rattle.std.proofs.lemmas.List.{take_all, take-take, length-take, length-drop}
use Rattle.std.proofs.lemmas.Bool.{false≢true, cases_lt, cond-true, cond-false, and_from, and_left, le-leb, lt-leb, eq-eqb}
use Rattle.model.specs.Requests.{Request}
use Rattle.model.specs.declared.refusal.Fault.{Fault}
use Rattle.block.specs.Blocks.{block_at, with_block, fits}
use Rattle.driver.specs.States.{State, holding}
use Rattle.std.specs.Simd.{first_chunks}
use Rattle.store.specs.Media.{Puts, all_put, next_put, not_put, Finds, all_found, next_found, other_found, not_found as block_not_found}
use Rattle.store.proofs.Turns.{there_after, same_length, written_on, more_same, first_same, rest_same}
use Rattle.archive.specs.declared.archive.StoreError.{StoreError}
use Rattle.archive.specs.declared.archive.StoreError.TheVariants.{Damaged}
use Rattle.archive.specs.Disks.{disk, on_disk, with_disk, Stuck, stuck_damaged, Wrote, wrote, not_wrote, Compared, compared, not_compared, Put, put, broke_off, Found, found, not_found, PutsOne, LooksAtOne}

-- a block fits, and is written, or it does not, and nothing changes
pub record Fits (xs block : List ℕ) (a : ℕ) : Type 0 where
  pub room : (a + 1) * 512 ≤ length xs
  pub after : with_block a block xs ≡ paste xs (a * 512) block (1 * 512)

pub record Lacks (xs block : List ℕ) (a : ℕ) : Type 0 where
  pub room : length xs < (a + 1) * 512
  pub after : with_block a block xs ≡ xs

pub fitting : (xs block : List ℕ) (a : ℕ) → length block ≡ 512 → Fits xs block a ⊎ Lacks xs block a
fitting xs block a l = elim (cases_lt (length xs) (a * 512 + 512)) [
  | inl h ↦ inr (record { room = omega arith; after = cond-false (fits a block xs) _ _ (and_left _ _ (lt-leb (a * 512 + 512) (length xs) h)) })
  | inr h ↦ inl (record { room = omega arith; after = cond-true (fits a block xs) _ _ (and_from _ _ (le-leb (a * 512 + 512) (length xs) h) (eq-eqb (length block) 512 l)) })
]

module _ (s : State) (a : ℕ) (block : List ℕ) (f : Fault) (l : length block ≡ 512) where
  -- the write that breaks off left the disk as it was
  unput : {t : State} {e : StoreError} → t.reach ≡ s.reach → t.contents ≡ on_disk s (disk s) → Stuck f t e → Put s a 1 block f (Err e) t
  unput d c z = broke_off 0 (omega arith) (inr refl) d (c ∙ ap (on_disk s) (paste_none (disk s) (a * 512) block)) z

  -- the write that breaks off was made
  part : {t : State} {e : StoreError} → t.reach ≡ s.reach → t.contents ≡ on_disk s (with_block a block (disk s)) → Stuck f t e → Put s a 1 block f (Err e) t
  part d c z = elim (fitting (disk s) block a l) [
    | inl h ↦ broke_off 1 (omega arith) (inl h.room) d (c ∙ ap (on_disk s) h.after) z
    | inr h ↦ unput d (c ∙ ap (on_disk s) h.after) z
  ]

  pub put_unwritten : {t : State} {e : StoreError} → Wrote s a block f (Err e) t → Put s a 1 block f (Err e) t
  put_unwritten (not_wrote ys p d c z) = elim p [
    | inl h ↦ unput d (c ∙ ap (on_disk s) h) z
    | inr h ↦ part d (c ∙ ap (on_disk s) h) z
  ]

  -- the state after the write
  abbrev pub written : State
  written = with_disk s (with_block a block (disk s))

  pub put_unread : {t : State} {e : StoreError} → Compared written a block f (Err e) t → Put s a 1 block f (Err e) t
  put_unread (not_compared d c z) = part d c z

  -- what was written is there, where it fits
  back : Fits (disk s) block a → block_at a (with_block a block (disk s)) ≡ block
  back h =
      let e : a * 512 + 512 ≤ length (disk s) = omega (arith, h.room) in
      ap (block_at a) h.after ∙ (there_after (disk s) block (a * 512) 512 e (omega arith) ∙ take_all 512 block (omega arith))

  pub put_back : {t : State} → Compared written a block f (Ok true) t → Put s a 1 block f (Ok tt) t
  put_back (compared e d) = elim (fitting (disk s) block a l) [
    | inl h ↦ put (inl h.room) (e ∙ ap (with_disk s) h.after)
    | inr h ↦ absurd (short h (ap length (sym (ap (block_at a) h.after) ∙ d.0 refl) ∙ l))
  ]
    where
      short : Lacks (disk s) block a → length (block_at a (disk s)) ≡ 512 → ⊥
      short h e = let r = h.room in let k = length-take 512 (drop (a * 512) (disk s)) in let m = length-drop (a * 512) (disk s) in omega arith

  pub put_damaged : {t : State} → a < s.reach → Compared written a block f (Ok false) t → Put s a 1 block f (Err Damaged) t
  put_damaged n (compared e d) = elim (fitting (disk s) block a l) [
    | inl h ↦ absurd (false≢true (d.1 (back h)))
    | inr h ↦ part (ap (λ (y : State). y.reach) e) (ap (λ (y : State). y.contents) e) (stuck_damaged (less h e))
  ]
    where
      less : {t : State} → Lacks (disk s) block a → t ≡ with_disk written (disk written) → length (disk t) < t.reach * 512
      less {t} h e =
          let x : length (disk t) ≡ length (disk s) = ap (λ (y : State). length (disk y)) e ∙ ap length h.after in
          let y : t.reach ≡ s.reach = ap (λ (y : State). y.reach) e in
          let r = h.room in
          let k : (a + 1) * 512 ≤ s.reach * 512 = omega arith in
          subst (λ (z : ℕ). length (disk t) < z * 512) (sym y) (omega arith)

  -- what the read after the write finds
  pub read_after : {m t : State} {g : Fault} {x : Unit} {r : Result Bool StoreError} → Wrote s a block g (Ok x) m → a < s.reach
      → (m.waiting ≡ [] → a < m.reach → length block ≡ 512 → Compared m a block f r t) → Compared written a block f r t
  read_after {m} {t} {g} {x} {r} (wrote e) n h =
      subst (λ (y : State). Compared y a block f r t) e
      (h (ap (λ (y : State). y.waiting) e) (subst (λ (k : ℕ). a < k) (sym (ap (λ (y : State). y.reach) e)) n) l)

-- a driver at which nothing waits, by its disk
pub unchanged : (s : State) → s.waiting ≡ [] → s ≡ with_disk s (disk s)
unchanged s w = ap (λ (qs : List Request). holding s qs s.contents) w

-- blocks one after the other, by the memory that each leaves
module _ (s : State) (a k : ℕ) (xs : List ℕ) (enough : suc k * 512 ≤ length xs) where
  -- the disk after the first block
  abbrev far : List ℕ
  far = paste (disk s) (a * 512) (take 512 xs) (1 * 512)

  same_size : (a + 1) * 512 ≤ length (disk s) → length far ≡ length (disk s)
  same_size h = let n = length-take 512 xs in same_length (disk s) (take 512 xs) far a 1 refl h (omega arith)

  more : (j : ℕ) → j ≤ k → (a + 1 + j) * 512 ≤ length (disk s) → paste far ((a + 1) * 512) (drop 512 xs) (j * 512) ≡ paste (disk s) (a * 512) xs (suc j * 512)
  more j h l = written_on (disk s) xs far a j (omega arith) (omega arith) refl

  -- the rest, behind a first block that was put
  rest_put : {t : State} {f : Fault} {r : Result Unit StoreError} → (a + 1) * 512 ≤ length (disk s) → Put (with_disk s far) (a + 1) k (drop 512 xs) f r t → Put s a (suc k) xs f r t
  rest_put h (put (inl l) e) = let n = same_size h in put (inl (omega arith)) (e ∙ ap (with_disk s) (more k (omega arith) (omega arith)))
  rest_put h (put (inr z) e) = let n = same_size h in put (inl (omega arith)) (e ∙ ap (with_disk s) (more k (omega arith) (omega arith)))
  rest_put h (broke_off j b (inl l) d c z) = let n = same_size h in broke_off (suc j) (omega arith) (inl (omega arith)) d (c ∙ ap (on_disk s) (more j b (omega arith))) z
  rest_put h (broke_off j b (inr l) d c z) = let n = same_size h in broke_off (suc j) (omega arith) (inl (omega arith)) d (c ∙ ap (on_disk s) (more j b (omega arith))) z

  pub then_put : {m t : State} {f g : Fault} {r : Result Unit StoreError} {x : Unit} → Put s a 1 (take 512 xs) g (Ok x) m → Put m (a + 1) k (drop 512 xs) f r t → Put s a (suc k) xs f r t
  then_put {t} {f} {r} (put (inl h) e) p = rest_put h (subst (λ (y : State). Put y (a + 1) k (drop 512 xs) f r t) e p)
  then_put (put (inr z) e) p = absurd (omega arith)

  -- a first block that breaks off
  pub stop_put : {t : State} {f : Fault} {e : StoreError} → Put s a 1 (take 512 xs) f (Err e) t → Put s a (suc k) xs f (Err e) t
  stop_put (broke_off j b l d c z) =
      broke_off j (omega arith) l d (c ∙ ap (λ (ys : List ℕ). on_disk s (take (a * 512) (disk s) ++ ys ++ drop (a * 512 + j * 512) (disk s))) (take-take (j * 512) 512 xs (omega arith))) z

-- blocks that are compared one after the other
as_it_was : {u v : State} {a : ℕ} {bs : List ℕ} {f : Fault} {b : Bool} → Compared u a bs f (Ok b) v → v ≡ with_disk u (disk u)
as_it_was (compared e d) = e

module _ (s : State) (a k : ℕ) (xs : List ℕ) where
  rest_found : {t : State} {f : Fault} {r : Result Bool StoreError} → take 512 (drop (a * 512) (disk s)) ≡ take 512 xs
      → Found (with_disk s (disk s)) (a + 1) k (drop 512 xs) f r t → Found s a (suc k) xs f r t
  rest_found h (found e d) = found e ((λ z. more_same k a (disk s) xs h (d.0 z)), (λ z. d.1 (rest_same k a (disk s) xs z)))
  rest_found h (not_found d c z) = not_found d c z

  pub then_found : {m t : State} {f g : Fault} {r : Result Bool StoreError} → Compared s a (take 512 xs) g (Ok true) m → Found m (a + 1) k (drop 512 xs) f r t → Found s a (suc k) xs f r t
  then_found {t} {f} {r} (compared e d) p = rest_found (d.0 refl) (subst (λ (y : State). Found y (a + 1) k (drop 512 xs) f r t) e p)

  pub other : {t : State} {f : Fault} → Compared s a (take 512 xs) f (Ok false) t → Found s a (suc k) xs f (Ok false) t
  other (compared e d) = found e ((λ z. absurd (false≢true z)), (λ z. d.1 (first_same k a (disk s) xs z)))

  pub stop_found : {t : State} {f : Fault} {e : StoreError} → Compared s a (take 512 xs) f (Err e) t → Found s a (suc k) xs f (Err e) t
  stop_found (not_compared d c z) = not_found d c z

-- blocks one after the other, through anything with the state of a driver
module _ {M N : Type 0} (name : M → N) (ok : M → Type 0) (state : M → State) (fault : M → Fault) where
  pub puts_keep : {s t : M} {a : ℕ} {bs : List (List ℕ)} {r : Result Unit StoreError} → Puts (PutsOne name ok state fault) s a bs r t → name t ≡ name s
  puts_keep (all_put e) = ap name e
  puts_keep (next_put p q) = puts_keep q ∙ p.0
  puts_keep (not_put p) = p.0

  pub finds_keep : {s t : M} {a : ℕ} {bs : List (List ℕ)} {r : Result Bool StoreError} → Finds (LooksAtOne name ok state fault) s a bs r t → name t ≡ name s
  finds_keep (all_found e) = ap name e
  finds_keep (next_found p q) = finds_keep q ∙ p.0
  finds_keep (other_found p) = p.0
  finds_keep (block_not_found p) = p.0

  -- what is asked once a first block was put or found
  asked : (k a : ℕ) (s : State) (m : M) (ys : List ℕ) (P : Type 0) → state m ≡ with_disk s ys → a + suc k ≤ s.reach → ((state m).waiting ≡ [] → a + 1 + k ≤ (state m).reach → P) → P
  asked k a s m ys P e h p = p (ap (λ (y : State). y.waiting) e) (let r = ap (λ (y : State). y.reach) e in omega arith)

  pub puts_all : (k : ℕ) (s t : M) (a : ℕ) (xs : List ℕ) (r : Result Unit StoreError) → k * 512 ≤ length xs → ok s → Puts (PutsOne name ok state fault) s a (first_chunks 512 k xs) r t
      → ok t × ((state s).waiting ≡ [] → a + k ≤ (state s).reach → Put (state s) a k xs (fault t) r (state t))
  puts_all zero s t a xs r l o (all_put e) = (subst ok (sym e) o, (λ w h. put (inr refl) (ap state e ∙ (unchanged (state s) w ∙ ap (with_disk (state s)) (paste_none (disk (state s)) (a * 512) xs)))))
  puts_all (suc k) s t a xs r l o (next_put {m} p q) =
      let one = p.1 o in
      let n = length-take 512 xs in
      let i = length-drop 512 xs in
      let rest = puts_all k m t (a + 1) (drop 512 xs) r (omega arith) one.0 q in (
        rest.0,
        (λ w h.
            let x = one.1 w (omega arith) (omega arith) in
            then_put (state s) a k xs l x (let e = now x in asked k a (state s) m _ (Put (state m) (a + 1) k (drop 512 xs) (fault t) r (state t)) e h rest.1)),
      )
    where
      now : {f : Fault} {x : Unit} {u v : State} {bs : List ℕ} → Put u a 1 bs f (Ok x) v → v ≡ with_disk u (paste (disk u) (a * 512) bs (1 * 512))
      now (put z e) = e
  puts_all (suc k) s t a xs r l o (not_put p) =
      let one = p.1 o in
      let n = length-take 512 xs in
      (one.0, (λ w h. stop_put (state s) a k xs l (one.1 w (omega arith) (omega arith))))

  pub finds_all : (k : ℕ) (s t : M) (a : ℕ) (xs : List ℕ) (r : Result Bool StoreError) → k * 512 ≤ length xs → ok s → Finds (LooksAtOne name ok state fault) s a (first_chunks 512 k xs) r t
      → ok t × ((state s).waiting ≡ [] → a + k ≤ (state s).reach → Found (state s) a k xs (fault t) r (state t))
  finds_all zero s t a xs r l o (all_found e) = (subst ok (sym e) o, (λ w h. found (ap state e ∙ unchanged (state s) w) ((λ z. refl), (λ z. refl))))
  finds_all (suc k) s t a xs r l o (next_found {m} p q) =
      let one = p.1 o in
      let n = length-take 512 xs in
      let i = length-drop 512 xs in
      let rest = finds_all k m t (a + 1) (drop 512 xs) r (omega arith) one.0 q in (
        rest.0,
        (λ w h.
            let x = one.1 w (omega arith) (omega arith) in
            then_found (state s) a k xs x (asked k a (state s) m _ (Found (state m) (a + 1) k (drop 512 xs) (fault t) r (state t)) (as_it_was x) h rest.1)),
      )
  finds_all (suc k) s t a xs r l o (other_found p) =
      let one = p.1 o in
      let n = length-take 512 xs in
      (one.0, (λ w h. other (state s) a k xs (one.1 w (omega arith) (omega arith))))
  finds_all (suc k) s t a xs r l o (block_not_found p) =
      let one = p.1 o in
      let n = length-take 512 xs in
      (one.0, (λ w h. stop_found (state s) a k xs (one.1 w (omega arith) (omega arith))))
