-- What has been handed on: the entries, their replay, and how each call changes them.
use Rattle.std.proofs.Common.{◌≡◌, ℕ, zero, suc, ◌+◌, ◌<◌, true, false, cond, not, List, [], ◌∷◌, ◌++◌, map, length, get_or, Some, None, filter, sym, refl, ap, ◌∙◌, arith}
use Rattle.std.proofs.lemmas.List.{append-nil, map-append, length-map}
use Rattle.std.proofs.lemmas.List.Elements.{filter-append}
use Rattle.marks.specs.First.{firstFrom}
use Rattle.compaction.specs.declared.entry.Entry.{Entry}
use Rattle.compaction.specs.Kinds.{Kind, Lawful}
use Rattle.compaction.specs.Compaction.{named, holds_default, Apart, others, update}
use Rattle.compaction.specs.Places.{place_from}
use Rattle.compaction.specs.Replay.{replay}
use Rattle.compaction.proofs.Filters.{kept_by_swap}
use Rattle.compaction.proofs.Sameness.{apart, flip}
use Rattle.compaction.proofs.Counting.{replay_cons}
use Rattle.compaction.proofs.Placing.{place_update, place_update_default}
use Rattle.entries.specs.declared.item.Item.{Item}
use Rattle.entries.specs.Items.{entries_of, fresh, marked, handed_entries, other_items, noted, hand_at, blank}
use Rattle.entries.proofs.Updates.{entries_others, entries_noted}
use Rattle.entries.proofs.Handing.{hand_last, entries_hand}

-- no mark, and every mark

pub handed_none : (is : List Item) → handed_entries (map (marked false) is) ≡ []
handed_none [] = refl
handed_none (x ∷ is) = handed_none is

pub handed_all : (i : ℕ) (is : List Item) → firstFrom (λ x. x.handed) i is ≡ None → handed_entries is ≡ entries_of is
handed_all i [] p = refl
handed_all i (x ∷ is) p = grind (arith, handed_all (i + 1) is)

-- an entry that is noted is not handed on, and those of its name are gone

handed_others : (k : Kind) (n : ℕ) (is : List Item) → handed_entries (other_items k n is) ≡ others k n (handed_entries is)
handed_others k n is =
    ap entries_of (kept_by_swap (λ i. i.handed) (λ i. not (k.same i.entry.name n)) is) ∙ entries_others k n (filter (λ i. i.handed) is)

handed_append : (is js : List Item) → handed_entries (is ++ js) ≡ handed_entries is ++ handed_entries js
handed_append is js =
    ap entries_of (filter-append (λ i. i.handed) is js) ∙ map-append (λ i. i.entry) (filter (λ i. i.handed) is) (filter (λ i. i.handed) js)

pub handed_noted : (k : Kind) (e : Entry) (is : List Item) → handed_entries (noted k e is) ≡ others k e.name (handed_entries is)
handed_noted k e is =
    handed_append (other_items k e.name is) (cond (holds_default k e) [] (fresh e ∷ []))
    ∙ grind (arith, append-nil, handed_others k e.name is)

-- it stands last, and marking it there gives what stands on the right
pub place_noted : (k : Kind) → Lawful k → (e : Entry) (is : List Item) → holds_default k e ≡ false
    → place_from k e.name 0 (entries_of (noted k e is)) ≡ Some (length (other_items k e.name is))
place_noted k law e is p =
    ap (place_from k e.name 0) (entries_noted k e is)
    ∙ (place_update k law (entries_of is) e p
    ∙ ap Some (ap length (sym (entries_others k e.name is)) ∙ length-map (other_items k e.name is) (λ i. i.entry)))

pub hand_noted : (k : Kind) (e : Entry) (is : List Item) → holds_default k e ≡ false
    → hand_at (length (other_items k e.name is)) (noted k e is) ≡ other_items k e.name is ++ marked true (fresh e) ∷ []
hand_noted k e is p = simp p (hand_last (other_items k e.name is) (fresh e))

-- so the entries that are handed on are updated in place
pub handed_hand_noted : (k : Kind) (e : Entry) (is : List Item) → holds_default k e ≡ false
    → handed_entries (hand_at (length (other_items k e.name is)) (noted k e is)) ≡ update k (handed_entries is) e
handed_hand_noted k e is p =
    ap handed_entries (hand_noted k e is p)
    ∙ (handed_append (other_items k e.name is) (marked true (fresh e) ∷ []) ∙ grind (arith, handed_others k e.name is))

-- the same by what `note`, `position` and `hand` ensure: the entry noted has a place and is marked there,
-- or it holds the default and has none
pub handed_at_place : (k : Kind) → Lawful k → (e : Entry) (is js ls : List Item) (i : ℕ)
    → js ≡ noted k e is → place_from k e.name 0 (entries_of js) ≡ Some i → ls ≡ hand_at i js
    → handed_entries ls ≡ update k (handed_entries is) e
handed_at_place k law e is js ls i p h m =
    let placed : place_from k e.name 0 (entries_of (noted k e is)) ≡ Some i = ap (λ l. place_from k e.name 0 (entries_of l)) (sym p) ∙ h in
    let marks : ls ≡ hand_at i (noted k e is) = m ∙ ap (hand_at i) p in
    grind (arith, placed, marks, place_noted k law e is, handed_hand_noted k e is, entries_noted k e is, place_update_default k (entries_of is) e)

pub handed_no_place : (k : Kind) → Lawful k → (e : Entry) (is js : List Item)
    → js ≡ noted k e is → place_from k e.name 0 (entries_of js) ≡ None
    → handed_entries js ≡ update k (handed_entries is) e
handed_no_place k law e is js p h =
    let placed : place_from k e.name 0 (entries_of (noted k e is)) ≡ None = ap (λ l. place_from k e.name 0 (entries_of l)) (sym p) ∙ h in
    grind (arith, append-nil, placed, place_noted k law e is, handed_noted k e is)

-- in a log where each name stands once, marking one more entry gives its name its content

pub named_handed : (k : Kind) (n : ℕ) (is : List Item) → named k n (entries_of is) ≡ false → named k n (handed_entries is) ≡ false
named_handed k n [] p = refl
named_handed k n (x ∷ is) p = grind (arith, named_handed k n is)

pub apart_handed : (k : Kind) (is : List Item) → Apart k (entries_of is) → Apart k (handed_entries is)
apart_handed k [] p = p
apart_handed k (x ∷ is) p = grind (arith, apart_handed k is, named_handed k x.entry.name is)

item_apart : (k : Kind) (n : ℕ) (is : List Item) (i : ℕ) → i < length is → named k n (entries_of is) ≡ false → k.same (get_or is i blank).entry.name n ≡ false
item_apart k n [] i lt p = absurd (omega arith)
item_apart k n (x ∷ is) zero lt p = grind arith
item_apart k n (x ∷ is) (suc i) lt p = grind (arith, item_apart k n is i)

module _ (k : Kind) (law : Lawful k) where
  -- of two entries apart at most one gives the name n its content
  either_gives : (a b n x y z : ℕ) → k.same b a ≡ false
      → cond (k.same a n) x (cond (k.same b n) y z) ≡ cond (k.same b n) y (cond (k.same a n) x z)
  either_gives a b n x y z p = grind (arith, apart k law n a b, law.symmetric a n, flip k law b a, flip k law n b)

  pub replay_hand : (is : List Item) (i n : ℕ) → Apart k (entries_of is) → i < length is → (get_or is i blank).handed ≡ false
      → replay k (handed_entries (hand_at i is)) n
      ≡ cond (k.same (get_or is i blank).entry.name n) (get_or is i blank).entry.content (replay k (handed_entries is) n)
  replay_hand [] i n p lt u = absurd (omega arith)
  replay_hand (x ∷ is) zero n p lt u = grind (arith, replay_cons k law x.entry (handed_entries is) n, named_handed k x.entry.name is)
  replay_hand (x ∷ is) (suc i) n p lt u =
      let e = (get_or is i blank).entry in
      grind (
        arith,
        replay_hand is i n p.2,
        entries_hand i is,
        named_handed k x.entry.name (hand_at i is),
        named_handed k x.entry.name is,
        replay_cons k law x.entry (handed_entries (hand_at i is)) n,
        replay_cons k law x.entry (handed_entries is) n,
        item_apart k x.entry.name is i,
        either_gives x.entry.name e.name n x.entry.content e.content (replay k (handed_entries is) n),
      )
