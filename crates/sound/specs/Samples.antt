-- Samples, and what playing them adds up to.
use Rattle.std.specs.Prelude.{ℕ, ◌+◌, ◌*◌, ◌%◌, ◌^◌, List, [], ◌∷◌, ℤ, pos, ◌*ℤ◌, int_div}
use Rattle.std.specs.Int.{w16, w32}
use Rattle.std.proofs.Common.{to_z, of_z}

-- two bytes, the lower first, as a signed number
abbrev pub sample : ℕ → ℕ → ℤ
sample lo hi = to_z w16 (lo + hi * 256)

-- a sample at a level: s * level / 256, rounded toward zero
abbrev pub scaled : ℕ → ℤ → ℤ
scaled level s = int_div (s *ℤ pos level) (pos 256)

-- the total with one sample more, modulo 2^32
abbrev pub heard : ℕ → ℕ → ℤ → ℕ
heard level t s = (t + of_z w32 (scaled level s)) % 2 ^ 32

-- the total after a payload, sample by sample
abbrev pub played : ℕ → ℕ → List ℕ → ℕ
played level t [] = t
played level t (lo ∷ []) = t
played level t (lo ∷ (hi ∷ rest)) = played level (heard level t (sample lo hi)) rest
