-- Filters of lists: in either order, twice, and one that leaves nothing out.
use Rattle.std.proofs.Common.{◌≡◌, Bool, List, [], ◌∷◌, length, filter, refl, arith}
use Rattle.std.proofs.lemmas.List.Sums.{length-filter, count_by-le-length}

pub kept_by_swap : {X : Type 0} (p q : X → Bool) (xs : List X) → filter p (filter q xs) ≡ filter q (filter p xs)
kept_by_swap p q [] = refl
kept_by_swap p q (x ∷ xs) = grind (arith, kept_by_swap p q xs)

pub kept_by_twice : {X : Type 0} (p : X → Bool) (xs : List X) → filter p (filter p xs) ≡ filter p xs
kept_by_twice p [] = refl
kept_by_twice p (x ∷ xs) = grind (arith, kept_by_twice p xs)

-- a filter that leaves out nothing
pub kept_by_all : {X : Type 0} (p : X → Bool) (xs : List X) → length (filter p xs) ≡ length xs → filter p xs ≡ xs
kept_by_all p [] e = refl
kept_by_all p (x ∷ xs) e = grind (arith, kept_by_all p xs, length-filter p xs, count_by-le-length p xs)
