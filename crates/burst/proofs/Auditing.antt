-- A count of the frames that stand on a shelf, so far.
use Rattle.std.proofs.Common.{◌≡◌, ℕ, suc, ◌+◌, Bool, true, false, List, [], ◌∷◌, refl, subst, arith}
use Rattle.arrivals.specs.Frames.{to_group}
use Rattle.burst.specs.Counts.{capped}
use Rattle.burst.specs.Audits.{Counted, none_left, passed, stands, missing, Audited, behind}

module _ {S : Type 0} (looks : S → ℕ → List ℕ → Bool → S → Type 0) (s : S) (frames : List (List ℕ)) where
  -- k frames were found up to here, and whatever those that are left come to completes the count
  pub record SoFar (m : S) (a : ℕ) (left : List (List ℕ)) (found : ℕ) : Type 0 where
    pub count : ℕ
    pub told : found ≡ capped count
    pub rest : (n : ℕ) (t : S) → Counted looks m a left n t → Counted looks s 0 frames (count + n) t

  pub begun : SoFar s 0 frames 0
  begun = record { count = 0; told = refl; rest = λ n t c. subst (λ (k : ℕ). Counted looks s 0 frames k t) (omega arith) c }

  pub over_group : {m : S} {a found : ℕ} {x : List ℕ} {xs : List (List ℕ)} → to_group x ≡ true → SoFar m a (x ∷ xs) found → SoFar m a xs found
  over_group g f = record { count = f.count; told = f.told; rest = λ n t c. f.rest n t (passed g c) }

  pub over_missing : {m m' : S} {a found : ℕ} {x : List ℕ} {xs : List (List ℕ)} → to_group x ≡ false → looks m a x false m' → SoFar m a (x ∷ xs) found → SoFar m' a xs found
  over_missing g l f = record { count = f.count; told = f.told; rest = λ n t c. f.rest n t (missing g l c) }

  pub over_found : {m m' : S} {a found found' : ℕ} {x : List ℕ} {xs : List (List ℕ)} → to_group x ≡ false → looks m a x true m' → found' ≡ capped (found + 1)
      → SoFar m a (x ∷ xs) found → SoFar m' (behind a x) xs found'
  over_found g l e f =
      let told = f.told in
      record {
        count = f.count + 1;
        told = omega arith;
        rest = λ n t c. subst (λ (k : ℕ). Counted looks s 0 frames k t) (omega arith) (f.rest (suc n) t (stands g l c));
      }

  pub finished : {m : S} {a found : ℕ} → SoFar m a [] found → Audited looks s frames found m
  finished f = record { count = f.count; run = subst (λ (k : ℕ). Counted looks s 0 frames k _) (omega arith) (f.rest 0 _ none_left); told = f.told }
