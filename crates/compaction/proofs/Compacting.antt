-- The compaction of one more entry is the update in place, and a compaction is its own.
use Rattle.std.proofs.Common.{◌≡◌, ℕ, true, false, cond, not, ◌||◌, List, [], ◌∷◌, ◌++◌, fold, filter, sym, refl, ap, ◌∙◌, arith}
use Rattle.std.specs.List.{AllByRecursion}
use Rattle.std.proofs.lemmas.List.{append_assoc, append-nil}
use Rattle.std.proofs.lemmas.List.Elements.{filter-append}
use Rattle.std.proofs.ByRecursion.{all_kept_by, All-push}
use Rattle.compaction.specs.declared.entry.Entry.{Entry}
use Rattle.compaction.specs.Kinds.{Kind, Lawful}
use Rattle.compaction.specs.Compaction.{named, latest, holds_default, compact, others, update}
use Rattle.compaction.proofs.Filters.{kept_by_swap, kept_by_twice}
use Rattle.compaction.proofs.Sameness.{apart, flip}

-- what holds of every entry holds of every entry that is kept
all_latest : (P : Entry → Type 0) (k : Kind) (h : List Entry) → AllByRecursion P h → AllByRecursion P (latest k h)
all_latest P k [] p = p
all_latest P k (e ∷ h) p = grind (arith, all_latest P k h)

pub all_compact : (P : Entry → Type 0) (k : Kind) (h : List Entry) → AllByRecursion P h → AllByRecursion P (compact k h)
all_compact P k h p = all_kept_by (λ e. not (holds_default k e)) P (latest k h) (all_latest P k h p)

pub all_update : (P : Entry → Type 0) (k : Kind) (h : List Entry) (e : Entry) → AllByRecursion P h → P e → AllByRecursion P (update k h e)
all_update P k h e p q = grind (arith, append-nil, all_kept_by (λ x. not (k.same x.name e.name)) P h, All-push P (others k e.name h) e)

-- the first entry stays where no later one has its name and it does not hold the default
pub compact_cons : (k : Kind) (e : Entry) (h : List Entry) → compact k (e ∷ h) ≡ cond (named k e.name h || holds_default k e) (compact k h) (e ∷ compact k h)
compact_cons k e h = grind arith

pub named_push_no : (k : Kind) (n : ℕ) (h : List Entry) (e : Entry) → k.same e.name n ≡ false → named k n (h ++ e ∷ []) ≡ named k n h
named_push_no k n [] e p = grind arith
named_push_no k n (x ∷ h) e p = grind (arith, named_push_no k n h e)

module _ (k : Kind) (law : Lawful k) where
  named_push_yes : (n : ℕ) (h : List Entry) (e : Entry) → k.same e.name n ≡ true → named k n (h ++ e ∷ []) ≡ true
  named_push_yes n [] e p = grind arith
  named_push_yes n (x ∷ h) e p = grind (arith, named_push_yes n h e)

  named_others : (n m : ℕ) (h : List Entry) → k.same n m ≡ false → named k n (others k m h) ≡ named k n h
  named_others n m [] q = refl
  named_others n m (x ∷ h) q = grind (arith, named_others n m h, apart k law x.name m n, flip k law n m)

  latest_push : (h : List Entry) (e : Entry) → latest k (h ++ e ∷ []) ≡ others k e.name (latest k h) ++ e ∷ []
  latest_push [] e = refl
  latest_push (x ∷ h) e =
      grind (arith, latest_push h e, named_push_yes x.name h e, named_push_no k x.name h e, law.symmetric x.name e.name, flip k law x.name e.name)

  latest_others : (m : ℕ) (h : List Entry) → latest k (others k m h) ≡ others k m (latest k h)
  latest_others m [] = refl
  latest_others m (x ∷ h) = grind (arith, latest_others m h, named_others x.name m h)

  pub updates : (h : List Entry) (e : Entry) → compact k (h ++ e ∷ []) ≡ update k (compact k h) e
  updates h e =
      ap (filter (λ x. not (holds_default k x))) (latest_push h e)
      ∙ grind (arith, filter-append (λ x. not (holds_default k x)) (others k e.name (latest k h)) (e ∷ []), kept_by_swap (λ x. not (holds_default k x)) (λ x. not (k.same x.name e.name)) (latest k h))

  compact_others : (m : ℕ) (c : List Entry) → compact k (others k m c) ≡ others k m (compact k c)
  compact_others m c =
      ap (filter (λ x. not (holds_default k x))) (latest_others m c)
      ∙ kept_by_swap (λ x. not (holds_default k x)) (λ x. not (k.same x.name m)) (latest k c)

  -- a list is compacted entry by entry
  pub compact_run : (h rest : List Entry) → compact k (h ++ rest) ≡ fold (update k) (compact k h) rest
  compact_run h [] = ap (compact k) (append-nil h)
  compact_run h (e ∷ rest) =
      ap (compact k) (sym (append_assoc h (e ∷ []) rest))
      ∙ (compact_run (h ++ e ∷ []) rest ∙ ap (λ c. fold (update k) c rest) (updates h e))

  settled_update : (c : List Entry) (e : Entry) → compact k c ≡ c → compact k (update k c e) ≡ update k c e
  settled_update c e s =
      grind (arith, append-nil, updates (others k e.name c) e, compact_others e.name c, kept_by_twice (λ x. not (k.same x.name e.name)) c)

  settled_run : (c rest : List Entry) → compact k c ≡ c → compact k (fold (update k) c rest) ≡ fold (update k) c rest
  settled_run c [] s = s
  settled_run c (e ∷ rest) s = settled_run (update k c e) rest (settled_update c e s)

  pub settles : (h : List Entry) → compact k (compact k h) ≡ compact k h
  settles h = ap (compact k) (compact_run [] h) ∙ (settled_run [] h refl ∙ sym (compact_run [] h))
