-- Whether a frame arrived.
use Rattle.std.proofs.Common.{◌≡◌, ℕ, cond, ◌&&◌, ltb, leb, List, length, take, Some, None, Option, ◌∙◌, inl, inr, arith}
use Rattle.std.proofs.lemmas.Bool.{cases_Bool, cond-true, cond-false, and_parts, and_from, ltb-true, leb-true, lt-ltb, le-leb}
use Rattle.intake.specs.Intakes.{Arrived}

pub record Cut (buffer : List ℕ) (size : ℕ) (frame : List ℕ) : Type 0 where
  pub arrived : Arrived buffer size
  pub bytes : frame ≡ take size buffer

pub cut : (buffer : List ℕ) (size : ℕ) (frame : List ℕ) → Some frame ≡ cond (ltb 0 size && leb size (length buffer)) (Some (take size buffer)) None → Cut buffer size frame
cut buffer size frame e = elim (cases_Bool (ltb 0 size && leb size (length buffer))) [
  | inl h ↦ let w : Some frame ≡ Some (take size buffer) = e ∙ cond-true _ _ _ h in
      let p = and_parts (ltb 0 size) (leb size (length buffer)) h in
      record { arrived = record { some = ltb-true 0 size p.0; within = leb-true size (length buffer) p.1 }; bytes = cc }
  | inr h ↦ let w : Some frame ≡ None = e ∙ cond-false _ _ _ h in let z : ◌≡◌ {A = ℕ} 0 1 = cc in absurd (omega arith)
]

pub not_cut : (buffer : List ℕ) (size : ℕ) → None ≡ cond (ltb 0 size && leb size (length buffer)) (Some (take size buffer)) None → Arrived buffer size → ⊥
not_cut buffer size e a =
    let h = and_from (ltb 0 size) (leb size (length buffer)) (lt-ltb 0 size a.some) (le-leb size (length buffer) a.within) in
    let w : ◌≡◌ {A = Option (List ℕ)} None (Some (take size buffer)) = e ∙ cond-true _ _ _ h in
    let z : ◌≡◌ {A = ℕ} 0 1 = cc in
    omega arith
