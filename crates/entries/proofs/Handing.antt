-- What marking does to the items of a log.
use Rattle.std.proofs.Common.{◌≡◌, ℕ, true, false, List, [], ◌∷◌, ◌++◌, map, length, get_or, set, refl, ap, ◌∙◌}
use Rattle.std.proofs.Math.Seq.{map-set_same}
use Rattle.std.proofs.lemmas.List.{get_or_at, set_at}
use Rattle.entries.specs.declared.item.Item.{Item}
use Rattle.entries.specs.Items.{entries_of, marked, hand_at, blank}

pub entries_hand : (i : ℕ) (is : List Item) → entries_of (hand_at i is) ≡ entries_of is
entries_hand i is = map-set_same (λ (x : Item). x.entry) is i (marked true (get_or is i blank)) blank refl

pub entries_unhand : (is : List Item) → entries_of (map (marked false) is) ≡ entries_of is
entries_unhand [] = refl
entries_unhand (x ∷ is) = ap (λ l. x.entry ∷ l) (entries_unhand is)

-- the last item marked
pub hand_last : (is : List Item) (x : Item) → hand_at (length is) (is ++ x ∷ []) ≡ is ++ marked true x ∷ []
hand_last is x =
    ap (λ y. set (is ++ x ∷ []) (length is) (marked true y)) (get_or_at is x [] blank (length is) refl)
    ∙ set_at is x [] (marked true x) (length is) refl
