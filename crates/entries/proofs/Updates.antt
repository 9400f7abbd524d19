-- What noting an entry does to the items of a log.
use Rattle.std.proofs.Common.{◌≡◌, ℕ, ◌+◌, ◌<◌, ◌≤◌, true, false, cond, ltb, List, [], ◌∷◌, ◌++◌, map, length, is_some, sym, refl, ap, ◌∙◌, arith}
use Rattle.std.specs.List.{AllByRecursion}
use Rattle.std.proofs.lemmas.List.{append-nil, map-append, length-append, length-map}
use Rattle.std.proofs.lemmas.List.Sums.{length-filter, count_by-le-length}
use Rattle.std.proofs.lemmas.Grind.{common_steps}
use Rattle.compaction.specs.declared.entry.Entry.{Entry}
use Rattle.compaction.specs.Kinds.{Kind, Lawful, Exact}
use Rattle.compaction.specs.Compaction.{holds_default, compact, Apart, others, update}
use Rattle.compaction.specs.Places.{place_from}
use Rattle.compaction.proofs.Compacting.{updates, all_update}
use Rattle.compaction.proofs.Standing.{apart_update}
use Rattle.compaction.proofs.Counting.{apart_few}
use Rattle.entries.specs.declared.item.Item.{Item}
use Rattle.entries.specs.Items.{entries_of, fresh, other_items, noted}

-- the entries of the items

pub entries_others : (k : Kind) (n : ℕ) (is : List Item) → entries_of (other_items k n is) ≡ others k n (entries_of is)
entries_others k n [] = refl
entries_others k n (x ∷ is) = grind (arith, entries_others k n is)

pub entries_fresh : (h : List Entry) → entries_of (map fresh h) ≡ h
entries_fresh [] = refl
entries_fresh (e ∷ h) = ap (λ l. e ∷ l) (entries_fresh h)

pub entries_noted : (k : Kind) (e : Entry) (is : List Item) → entries_of (noted k e is) ≡ update k (entries_of is) e
entries_noted k e is =
    grind (arith, map-append (λ i. i.entry) (other_items k e.name is) (cond (holds_default k e) [] (fresh e ∷ [])), entries_others k e.name is)

-- the change in place follows the history
pub noted_records : (k : Kind) → Lawful k → (e : Entry) (is js : List Item) → js ≡ noted k e is
    → (h : List Entry) → entries_of is ≡ compact k h → entries_of js ≡ compact k (h ++ e ∷ [])
noted_records k law e is js p h r =
    ap entries_of p ∙ (entries_noted k e is ∙ (ap (λ l. update k l e) r ∙ sym (updates k law h e)))

pub noted_default : (k : Kind) (e : Entry) (is : List Item) → holds_default k e ≡ true → noted k e is ≡ other_items k e.name is
noted_default k e is p = simp p (append-nil (other_items k e.name is))

pub noted_more : (k : Kind) (e : Entry) (is : List Item) → holds_default k e ≡ false → noted k e is ≡ other_items k e.name is ++ fresh e ∷ []
noted_more k e is p = simp p

-- room for one more entry

pub length_others_le : (k : Kind) (n : ℕ) (is : List Item) → length (other_items k n is) ≤ length is
length_others_le k n is = grind (arith, length-filter, count_by-le-length)

pub length_noted_le : (k : Kind) (e : Entry) (is : List Item) → length (noted k e is) ≤ length is + 1
length_noted_le k e is =
    grind (arith, length-append (other_items k e.name is) (cond (holds_default k e) [] (fresh e ∷ [])), length_others_le k e.name is)

-- where names are numbers below a bound, there are never more entries than that
pub noted_few : (k : Kind) → Lawful k → Exact k → (e : Entry) (is : List Item) (bound : ℕ)
    → Apart k (entries_of is) → AllByRecursion (λ x. x.name < bound) (entries_of is) → e.name < bound
    → length (noted k e is) ≤ bound
noted_few k law ex e is b a p q =
    let f = apart_few k law ex (update k (entries_of is) e) b (apart_update k law (entries_of is) e a) (all_update (λ x. x.name < b) k (entries_of is) e p q) in
    omega (arith, ap length (entries_noted k e is), length-map (noted k e is) (λ i. i.entry))

-- a name has a place where fewer entries are of other names
pub place_room : (k : Kind) (n i : ℕ) (is : List Item) → is_some (place_from k n i (entries_of is)) ≡ ltb (length (other_items k n is)) (length is)
place_room k n i [] = refl
place_room k n i (x ∷ is) = grind (arith, common_steps, place_room k n (i + 1) is, length_others_le k n is)
