-- In a compaction each name stands once, and no entry holds the default.
use Rattle.std.proofs.Common.{◌≡◌, ℕ, zero, suc, ◌<◌, Bool, true, false, not, List, [], ◌∷◌, ◌++◌, length, get_or, filter, refl, arith}
use Rattle.std.specs.List.{AllByRecursion}
use Rattle.std.proofs.lemmas.List.{append-nil}
use Rattle.std.proofs.lemmas.Bool.{eqb-false}
use Rattle.compaction.specs.declared.entry.Entry.{Entry}
use Rattle.compaction.specs.Kinds.{Kind, Lawful}
use Rattle.compaction.specs.Compaction.{named, holds_default, compact, Apart, others, update}
use Rattle.compaction.proofs.Sameness.{flip, alike}

-- a name that a list does not have, no part of it has
pub named_kept_by : (k : Kind) (n : ℕ) (p : Entry → Bool) (h : List Entry) → named k n h ≡ false → named k n (filter p h) ≡ false
named_kept_by k n p [] q = refl
named_kept_by k n p (e ∷ h) q = grind (arith, named_kept_by k n p h)

pub named_compact : (k : Kind) (n : ℕ) (h : List Entry) → named k n h ≡ false → named k n (compact k h) ≡ false
named_compact k n [] q = refl
named_compact k n (e ∷ h) q = grind (arith, named_compact k n h)

pub named_at : (k : Kind) (n : ℕ) (h : List Entry) (i : ℕ) (d : Entry) → i < length h → k.same (get_or h i d).name n ≡ true → named k n h ≡ true
named_at k n [] i d lt p = absurd (omega arith)
named_at k n (e ∷ h) zero d lt p = grind arith
named_at k n (e ∷ h) (suc i) d lt p = grind (arith, named_at k n h i d)

-- the entries of other names do not have the name
pub named_others_none : (k : Kind) (n : ℕ) (h : List Entry) → named k n (others k n h) ≡ false
named_others_none k n [] = refl
named_others_none k n (e ∷ h) = grind (arith, named_others_none k n h)

pub named_push_none : (k : Kind) (n : ℕ) (h : List Entry) (e : Entry) → named k n h ≡ false → k.same e.name n ≡ false → named k n (h ++ e ∷ []) ≡ false
named_push_none k n [] e p q = grind arith
named_push_none k n (x ∷ h) e p q = grind (arith, named_push_none k n h e)

pub apart_compact : (k : Kind) (h : List Entry) → Apart k (compact k h)
apart_compact k [] = tt
apart_compact k (e ∷ h) = grind (arith, apart_compact k h, named_compact)

-- a part of a list apart is apart
pub apart_kept_by : (k : Kind) (p : Entry → Bool) (c : List Entry) → Apart k c → Apart k (filter p c)
apart_kept_by k p [] a = a
apart_kept_by k p (e ∷ c) a = grind (arith, apart_kept_by k p c, named_kept_by)

-- a list apart is its own compaction
pub compact_apart : (k : Kind) (c : List Entry) → Apart k c → compact k c ≡ c
compact_apart k [] a = refl
compact_apart k (e ∷ c) a = grind (arith, compact_apart k c)

pub apart_no_default : (k : Kind) (c : List Entry) → Apart k c → AllByRecursion (λ e. e.content ≡ k.default e.name → ⊥) c
apart_no_default k [] a = tt
apart_no_default k (e ∷ c) a = (eqb-false _ _ a.1, apart_no_default k c a.2)

pub no_default : (k : Kind) → Lawful k → (h : List Entry) → AllByRecursion (λ e. e.content ≡ k.default e.name → ⊥) (compact k h)
no_default k law h = apart_no_default k (compact k h) (apart_compact k h)

module _ (k : Kind) (law : Lawful k) where
  pub named_alike : (a b : ℕ) (h : List Entry) → k.same a b ≡ true → named k a h ≡ named k b h
  named_alike a b [] p = refl
  named_alike a b (e ∷ h) p = grind (arith, named_alike a b h, alike k law e.name a b)

  pub apart_places : (c : List Entry) → Apart k c → (i j : ℕ) (d : Entry) → i < length c → j < length c
      → k.same (get_or c i d).name (get_or c j d).name ≡ true → i ≡ j
  apart_places [] a i j d l m p = absurd (omega arith)
  apart_places (e ∷ c) a zero zero d l m p = refl
  apart_places (e ∷ c) a zero (suc j) d l m p = grind (arith, named_at k e.name c j d, law.symmetric e.name (get_or c j d).name)
  apart_places (e ∷ c) a (suc i) zero d l m p = grind (arith, named_at k e.name c i d)
  apart_places (e ∷ c) a (suc i) (suc j) d l m p = grind (arith, apart_places c a.2 i j d)

  pub stands_once : (h : List Entry) (i j : ℕ) (d : Entry) → i < length (compact k h) → j < length (compact k h)
      → k.same (get_or (compact k h) i d).name (get_or (compact k h) j d).name ≡ true → i ≡ j
  stands_once h = apart_places (compact k h) (apart_compact k h)

  apart_push : (c : List Entry) (e : Entry) → Apart k c → named k e.name c ≡ false → holds_default k e ≡ false → Apart k (c ++ e ∷ [])
  apart_push [] e a p q = grind arith
  apart_push (x ∷ c) e a p q = grind (arith, apart_push c e, named_push_none k x.name c e, flip k law x.name e.name)

  -- one more entry in place keeps a list apart
  pub apart_update : (c : List Entry) (e : Entry) → Apart k c → Apart k (update k c e)
  apart_update c e a =
      grind (arith, append-nil, apart_kept_by k (λ x. not (k.same x.name e.name)) c, apart_push (others k e.name c) e, named_others_none k e.name c)
