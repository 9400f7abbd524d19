-- Where the entry of a name stands, and where one stands that was just noted.
use Rattle.std.proofs.Common.{◌≡◌, ℕ, suc, ◌+◌, ◌<◌, true, false, List, [], ◌∷◌, ◌++◌, length, get_or, is_some, Some, None, sym, refl, ap, ◌∙◌, inl, inr, arith}
use Rattle.std.proofs.lemmas.List.{append-nil}
use Rattle.std.proofs.lemmas.Bool.{cases_Bool, cond-true, cond-false}
use Rattle.compaction.specs.declared.entry.Entry.{Entry}
use Rattle.compaction.specs.Kinds.{Kind, Lawful}
use Rattle.compaction.specs.Compaction.{named, holds_default, others, update}
use Rattle.compaction.specs.Places.{place_from}
use Rattle.compaction.proofs.Standing.{named_others_none}

-- a name has a place where some entry has it
pub place_named : (k : Kind) (n i : ℕ) (h : List Entry) → is_some (place_from k n i h) ≡ named k n h
place_named k n i [] = refl
place_named k n i (e ∷ h) = grind (arith, place_named k n (i + 1) h)

pub place_none : (k : Kind) (n i : ℕ) (h : List Entry) → named k n h ≡ false → place_from k n i h ≡ None
place_none k n i [] p = refl
place_none k n i (e ∷ h) p = grind (arith, place_none k n (i + 1) h)

-- the entry in a name's place has the name
place_within : (k : Kind) (n i j : ℕ) (h : List Entry) (d : Entry) → place_from k n i h ≡ Some j
    → (m : ℕ) × (i + m ≡ j) × (m < length h) × (k.same (get_or h m d).name n ≡ true)
place_within k n i j [] d p = absurd (cc)
place_within k n i j (e ∷ h) d p =
    elim (cases_Bool (k.same e.name n)) [
      | inl a ↦ let q : Some i ≡ Some j = sym (cond-true (k.same e.name n) (Some i) (place_from k n (i + 1) h) a) ∙ p in
          let r : i ≡ j = cc in
          (0, omega arith, omega arith, a)
      | inr a ↦ let q = sym (cond-false (k.same e.name n) (Some i) (place_from k n (i + 1) h) a) ∙ p in
          let w = place_within k n (i + 1) j h d q in
          (suc w.0, omega arith, omega arith, w.3)
    ]

pub place_holds : (k : Kind) (n j : ℕ) (h : List Entry) (d : Entry) → place_from k n 0 h ≡ Some j
    → (j < length h) × (k.same (get_or h j d).name n ≡ true)
place_holds k n j h d p =
    let w = place_within k n 0 j h d p in
    let e : w.0 ≡ j = omega arith in
    (omega arith, ap (λ m. k.same (get_or h m d).name n) (sym e) ∙ w.3)

-- an entry that no earlier one of its name precedes has its name's place
pub place_push : (k : Kind) (n i : ℕ) (h : List Entry) (e : Entry) → named k n h ≡ false → k.same e.name n ≡ true
    → place_from k n i (h ++ e ∷ []) ≡ Some (i + length h)
place_push k n i [] e p q = grind arith
place_push k n i (x ∷ h) e p q = grind (arith, place_push k n (i + 1) h e)

-- after the update in place an entry stands last, and one that holds the default has no place
pub place_update : (k : Kind) → Lawful k → (h : List Entry) (e : Entry) → holds_default k e ≡ false
    → place_from k e.name 0 (update k h e) ≡ Some (length (others k e.name h))
place_update k law h e p = grind (arith, place_push k e.name 0 (others k e.name h) e, named_others_none k e.name h, law.reflexive e.name)

pub place_update_default : (k : Kind) (h : List Entry) (e : Entry) → holds_default k e ≡ true
    → place_from k e.name 0 (update k h e) ≡ None
place_update_default k h e p = grind (arith, append-nil, place_none k e.name 0 (others k e.name h), named_others_none k e.name h)
