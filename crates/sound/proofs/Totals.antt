-- What a sample and a payload add to a total.
use Rattle.std.proofs.Common.{◌≡◌, ℕ, zero, suc, ◌+◌, ◌/◌, ◌%◌, ◌^◌, ◌<◌, ◌≤◌, List, [], ◌∷◌, length, get_or, ℤ, pos, negsuc, ◌*ℤ◌, refl, arith, w32, SFits, to_z, of_z}
use Rattle.std.proofs.lemmas.Int.{to_z-of_z, to_z_pos, fits_signed_mul, quot_fits, ints}
use Rattle.std.specs.Int.RustNames.{unsigned_abs}
use Rattle.std.specs.List.{fold}
use Rattle.std.specs.Simd.{first_chunks}
use Rattle.sound.specs.Samples.{heard, sample, played}
use lib.Signed.{mag, quot_z}

within : (s : ℤ) → mag s < 32768 → unsigned_abs s ≤ 32768
within (pos a) h = omega arith
within (negsuc a) h = omega arith

-- what the code computes, through its casts, is the rule
pub landed : (t l : ℕ) (s s₀ : ℤ) → s ≡ s₀ → mag s₀ < 32768 → l ≤ 256
    → (t + of_z w32 (to_z w32 (of_z w32 (quot_z (to_z w32 (of_z w32 (to_z w32 (of_z w32 s) *ℤ to_z w32 l))) (pos 256))))) % 2 ^ 32 ≡ heard l t s₀
landed t l s s₀ e h k =
    let p : SFits w32 (s₀ *ℤ pos l) = fits_signed_mul w32 s₀ (pos l) 32768 256 (within s₀ h) k (omega arith) in
    let q : SFits w32 (quot_z (s₀ *ℤ pos l) (pos 256)) = quot_fits w32 (s₀ *ℤ pos l) (pos 256) p (omega (arith, ints)) in
    rw (e, to_z-of_z w32 s₀ (record { sfits = omega arith }), to_z_pos w32 l (omega arith), to_z-of_z w32 (s₀ *ℤ pos l) p, to_z-of_z w32 (quot_z (s₀ *ℤ pos l) (pos 256)) q)

-- a fold over the pairs of a payload is what its samples add up to
module _ (level : ℕ) where
  abbrev pub add_pair : ℕ → List ℕ → ℕ
  add_pair total pair = heard level total (sample (get_or pair 0 0) (get_or pair 1 0))

  pairs : (n total : ℕ) (xs : List ℕ) → n ≡ length xs / 2 → fold add_pair total (first_chunks 2 n xs) ≡ played level total xs
  pairs zero total [] e = refl
  pairs (suc n) total [] e = absurd (omega arith)
  pairs zero total (x ∷ []) e = refl
  pairs (suc n) total (x ∷ []) e = absurd (omega arith)
  pairs zero total (low ∷ (high ∷ rest)) e = absurd (omega arith)
  pairs (suc n) total (low ∷ (high ∷ rest)) e = pairs n (heard level total (sample low high)) rest (omega arith)

  pub added : (total : ℕ) (xs : List ℕ) → fold add_pair total (first_chunks 2 (length xs / 2) xs) ≡ played level total xs
  added total xs = pairs (length xs / 2) total xs refl
