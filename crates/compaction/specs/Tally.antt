-- The number of names whose content is not the default.
use Rattle.std.specs.Prelude.{ℕ, zero, suc, ◌+◌, Bool, false, cond, ◌||◌, ◌==◌}
use Rattle.compaction.specs.Kinds.{Kind}

-- how many numbers below a bound have a content other than their default
unfoldable pub tally : (ℕ → ℕ) → (ℕ → ℕ) → ℕ → ℕ
tally default content zero = 0
tally default content (suc n) = cond (content n == default n) 0 1 + tally default content n

-- whether some number below m is the same name as n
unfoldable pub named_below : Kind → ℕ → ℕ → Bool
named_below k n zero = false
named_below k n (suc m) = k.same m n || named_below k n m

-- how many names below a bound have a content other than their default:
-- of the numbers that are one name only the least counts
unfoldable pub tally_names : Kind → (ℕ → ℕ) → ℕ → ℕ
tally_names k content zero = 0
tally_names k content (suc n) = cond (named_below k n n || content n == k.default n) 0 1 + tally_names k content n
