-- The first entry of a list that is not handed on.
use Rattle.std.specs.Prelude.{ℕ, ◌+◌, Bool, cond, List, [], ◌∷◌, Some, None, Option}

-- the index of the first entry that is not handed on, where the list starts at the index n
abbrev pub firstFrom : {X : Type 0} → (X → Bool) → ℕ → List X → Option ℕ
firstFrom handed n [] = None
firstFrom handed n (x ∷ xs) = cond (handed x) (firstFrom handed (n + 1) xs) (Some n)
