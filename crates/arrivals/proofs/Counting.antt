-- A count of frames that has come so far through the arrivals.
use Rattle.std.proofs.Common.{◌≡◌, ℕ, zero, suc, ◌+◌, ◌*◌, ◌≤◌, ◌<◌, ◌^◌, Bool, true, false, cond, List, [], ◌∷◌, length, take, sym, refl, ap, ◌∙◌, ⊎_elim, arith}
use Rattle.std.proofs.lemmas.Bool.{cases_Bool, cond-true, cond-false, cond_both}
use Rattle.arrivals.specs.Frames.{usable, to_group}
use Rattle.arrivals.specs.Runs.{frames_from, frames_of}
use Rattle.arrivals.specs.Surveys.{survey_from, survey_of, survey_frames, counted, nothing}
use Rattle.arrivals.specs.declared.survey.Survey.{Survey}
use Rattle.arrivals.proofs.Splits.{size, at_least, arrived, same_group}

counted_from : (k : ℕ) (xs : List ℕ) → survey_from k xs ≡ survey_frames (frames_from k xs)
counted_from (suc k) [] = refl
counted_from (suc k) (x ∷ xs) = counted_from k xs
counted_from zero [] = refl
counted_from zero (high ∷ []) = refl
counted_from zero (high ∷ (low ∷ rest)) =
    let n = high * 256 + low in
    ⊎_elim
    (λ u.
    let s : length (take n rest) ≡ n = size n rest u in
    let g : to_group (take n rest) ≡ to_group rest = same_group n rest (at_least n rest u) in
    let later : survey_frames (take n rest ∷ frames_from n rest) ≡ counted (to_group rest) n (survey_from n rest) = rw (s, g, counted_from n rest) refl in
    cond-true _ _ _ u ∙ (sym later ∙ sym (ap survey_frames (cond-true _ _ _ u))))
    (λ u. cond-false _ _ _ u ∙ sym (ap survey_frames (cond-false _ _ _ u)))
    (cases_Bool (usable n (length rest)))

-- the frames that are counted are those of the run
pub counted_frames : (bytes : List ℕ) → survey_of bytes ≡ survey_frames (frames_of bytes)
counted_frames bytes = counted_from 0 bytes

-- the frames past the first k of n bytes take no more bytes than those
pub record Small (s : Survey) (k n : ℕ) : Type 0 where
  pub used : s.used + k ≤ n
  pub few : s.frames ≤ s.used
  pub fewer : s.groups ≤ s.frames

none : (k n : ℕ) → k ≤ n → Small nothing k n
none k n h = record { used = omega arith; few = omega arith; fewer = omega arith }

at_most_one : (group : Bool) → cond group 1 0 ≤ 1
at_most_one true = omega arith
at_most_one false = omega arith

small_from : (k : ℕ) (xs : List ℕ) → k ≤ length xs → Small (survey_from k xs) k (length xs)
small_from (suc k) [] h = absurd (omega arith)
small_from (suc k) (x ∷ xs) h =
    let f = small_from k xs (omega arith) in
    record { used = omega (arith, f.used); few = f.few; fewer = f.fewer }
small_from zero [] h = none 0 0 h
small_from zero (high ∷ []) h = none 0 1 h
small_from zero (high ∷ (low ∷ rest)) h =
    let n = high * 256 + low in
    cond_both (usable n (length rest)) (counted (to_group rest) n (survey_from n rest)) nothing (λ s. Small s 0 (length (high ∷ (low ∷ rest))))
    (λ u.
    let a = arrived n rest u in
    let f = small_from n rest a in
    let g = at_most_one (to_group rest) in
    record { used = omega (arith, f.used, a); few = omega (arith, f.few); fewer = omega (arith, f.fewer, g) })
    (λ u. none 0 (length (high ∷ (low ∷ rest))) h)

pub small : (bytes : List ℕ) → Small (survey_of bytes) 0 (length bytes)
small bytes = small_from 0 bytes (omega arith)

-- the frames of `bytes` that have been counted, and those that are still to come
pub record SoFar (bytes : List ℕ) (left : List (List ℕ)) (s : Survey) : Type 0 where
  pub frames : (survey_of bytes).frames ≡ s.frames + (survey_frames left).frames
  pub groups : (survey_of bytes).groups ≡ s.groups + (survey_frames left).groups
  pub used : (survey_of bytes).used ≡ s.used + (survey_frames left).used

-- one frame more can be counted
pub record Room (frame : List ℕ) (s : Survey) : Type 0 where
  pub frames : s.frames + 1 < 2 ^ 64
  pub groups : s.groups + cond (to_group frame) 1 0 < 2 ^ 64
  pub used : s.used + (2 + length frame) < 2 ^ 64

pub room : (bytes frame : List ℕ) (left more : List (List ℕ)) (s : Survey) → SoFar bytes left s → left ≡ frame ∷ more → length bytes < 2 ^ 64 → Room frame s
room bytes frame left more s f e l =
    let k = small bytes in
    let frames = ap (λ (fs : List (List ℕ)). (survey_frames fs).frames) e in
    let groups = ap (λ (fs : List (List ℕ)). (survey_frames fs).groups) e in
    let used = ap (λ (fs : List (List ℕ)). (survey_frames fs).used) e in
    record {
      frames = omega (arith, k.used, k.few, f.frames, frames);
      groups = omega (arith, k.used, k.few, k.fewer, f.groups, groups);
      used = omega (arith, k.used, f.used, used);
    }
