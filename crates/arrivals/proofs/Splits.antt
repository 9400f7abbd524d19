-- What is known of arrivals once their first frame is split off.
use Rattle.std.proofs.Common.{◌≡◌, ℕ, zero, suc, ◌+◌, ◌*◌, ◌≤◌, true, false, cond, leb, List, [], ◌∷◌, length, take, drop, Some, None, Option, sym, refl, ap, ◌∙◌, ⊎_elim, arith, length-drop, drop-drop}
use Rattle.std.proofs.lemmas.Bool.{cond-true, cond-false, cases_Bool, and_parts, and_from, eq-eqb, not_from_true, not_from_false, leb-true}
use Rattle.std.proofs.lemmas.List.{length-take-le}
use Rattle.std.proofs.lemmas.Option.{none-some, cond_some}
use Rattle.std.specs.Option.{unwrap_or}
use Rattle.arrivals.specs.Frames.{Found, ended, seek, usable, passes, to_group, split, arrival, next_frame}
use Rattle.arrivals.specs.Runs.{frames_from, frames_of, taken}
use Rattle.arrivals.specs.Surveys.{survey_from, survey_of, counted, nothing}

-- what stands past the first k bytes is what stands at the front of the others
seek_from : (l k : ℕ) (xs : List ℕ) → seek l k xs ≡ seek l 0 (drop k xs)
seek_from l zero xs = refl
seek_from l (suc k) [] = refl
seek_from l (suc k) (x ∷ xs) = seek_from l k xs

frames_past : (k : ℕ) (xs : List ℕ) → frames_from k xs ≡ frames_of (drop k xs)
frames_past zero xs = refl
frames_past (suc k) [] = refl
frames_past (suc k) (x ∷ xs) = frames_past k xs

survey_past : (k : ℕ) (xs : List ℕ) → survey_from k xs ≡ survey_of (drop k xs)
survey_past zero xs = refl
survey_past (suc k) [] = refl
survey_past (suc k) (x ∷ xs) = survey_past k xs

pub same_group : (n : ℕ) (xs : List ℕ) → 14 ≤ n → to_group (take n xs) ≡ to_group xs
same_group zero xs h = absurd (omega arith)
same_group (suc n) [] h = refl
same_group (suc n) (x ∷ xs) h = refl

-- what a level finds where the frame comes first, and `next` in what follows it
abbrev pub found_first : ℕ → List ℕ → Found → Found
found_first level frame next =
    cond (passes level frame) (record { moved = 2 + length frame + next.moved; frame = next.frame }) (record { moved = 2 + length frame; frame = frame })

-- the arrivals `bytes` are a frame behind its length, and then `rest`
pub record Splits (bytes frame rest : List ℕ) : Type 0 where
  pub shortest : 14 ≤ length frame
  pub longest : length frame ≤ 1514
  pub whole : length bytes ≡ 2 + (length frame + length rest)
  pub rest_is : rest ≡ drop (2 + length frame) bytes
  pub frames : frames_of bytes ≡ frame ∷ frames_of rest
  pub survey : survey_of bytes ≡ counted (to_group frame) (length frame) (survey_of rest)
  pub found : (l : ℕ) → seek l 0 bytes ≡ found_first l frame (seek l 0 rest)

-- a length that is usable
module _ (n : ℕ) (rest : List ℕ) (u : usable n (length rest) ≡ true) where
  pub at_least : 14 ≤ n
  at_least = leb-true 14 n (and_parts (leb 14 n) _ u).0

  others : (leb n 1514 ≡ true) × (leb n (length rest) ≡ true)
  others = and_parts (leb n 1514) _ (and_parts (leb 14 n) _ u).1

  at_most : n ≤ 1514
  at_most = leb-true n 1514 others.0

  pub arrived : n ≤ length rest
  arrived = leb-true n (length rest) others.1

  pub size : length (take n rest) ≡ n
  size = length-take-le n rest arrived

  found_there : (l : ℕ) → arrival l n rest (seek l n rest) ≡ found_first l (take n rest) (seek l 0 (drop n rest))
  found_there l =
      rw (size, same_group n rest at_least)
      (cond-true _ _ _ u
      ∙ ap (λ (f : Found). cond (passes l rest) (record { moved = 2 + n + f.moved; frame = f.frame }) (record { moved = 2 + n; frame = take n rest })) (seek_from l n rest))

  survey_there : cond (usable n (length rest)) (counted (passes 0 rest) n (survey_from n rest)) nothing ≡ counted (to_group (take n rest)) (length (take n rest)) (survey_of (drop n rest))
  survey_there =
      rw (size, same_group n rest at_least) (cond-true _ _ _ u ∙ ap (counted (to_group rest) n) (survey_past n rest))

split_usable : (high low : ℕ) (rest : List ℕ) → usable (high * 256 + low) (length rest) ≡ true
    → Splits (high ∷ (low ∷ rest)) (take (high * 256 + low) rest) (drop (high * 256 + low) rest)
split_usable high low rest u =
    let n = high * 256 + low in
    let s = size n rest u in
    let a = arrived n rest u in
    let two_more : suc (suc n) ≡ 2 + n = omega arith in
    record {
      shortest = rw s (at_least n rest u);
      longest = rw s (at_most n rest u);
      whole = omega (arith, s, a, length-drop n rest);
      rest_is = rw s (ap (λ (k : ℕ). drop k (high ∷ (low ∷ rest))) two_more);
      frames = cond-true _ _ _ u ∙ ap (λ (fs : List (List ℕ)). take n rest ∷ fs) (frames_past n rest);
      survey = survey_there n rest u;
      found = found_there n rest u;
    }

pub split_some : (bytes : List ℕ) (parts : List ℕ × List ℕ) → split bytes ≡ Some parts → Splits bytes parts.0 parts.1
split_some [] parts e = absurd (none-some parts e)
split_some (x ∷ []) parts e = absurd (none-some parts e)
split_some (high ∷ (low ∷ rest)) parts e =
    let n = high * 256 + low in
    let t = cond_some (usable n (length rest)) (take n rest, drop n rest) parts e in
    rw (← t.1) (split_usable high low rest t.0)

-- the arrivals have ended
pub record Ended (bytes : List ℕ) : Type 0 where
  pub frames : frames_of bytes ≡ []
  pub survey : survey_of bytes ≡ nothing
  pub found : (l : ℕ) → seek l 0 bytes ≡ ended

split_unusable : (high low : ℕ) (rest : List ℕ) → usable (high * 256 + low) (length rest) ≡ false → Ended (high ∷ (low ∷ rest))
split_unusable high low rest u =
    record { frames = cond-false _ _ _ u; survey = cond-false _ _ _ u; found = λ l. cond-false _ _ _ u }

pub split_none : (bytes : List ℕ) → split bytes ≡ None → Ended bytes
split_none [] e = record { frames = refl; survey = refl; found = λ l. refl }
split_none (x ∷ []) e = record { frames = refl; survey = refl; found = λ l. refl }
split_none (high ∷ (low ∷ rest)) e =
    ⊎_elim
    (λ u. absurd (none-some _ (sym e ∙ cond-true _ _ _ u)))
    (λ u. split_unusable high low rest u)
    (cases_Bool (usable (high * 256 + low) (length rest)))

-- a frame that the level passes over
module _ (level : ℕ) (bytes frame rest : List ℕ) (s : Splits bytes frame rest) (z : level ≡ 0) (g : to_group frame ≡ true) where
  passed : passes level frame ≡ true
  passed = and_from _ _ (eq-eqb level 0 z) g

  pub found_later : next_frame level bytes ≡ record { moved = 2 + length frame + (next_frame level rest).moved; frame = (next_frame level rest).frame }
  found_later = s.found level ∙ cond-true _ _ _ passed

  pub taken_later : taken level (frames_of bytes) ≡ taken level (frames_of rest)
  taken_later = ap (taken level) s.frames ∙ cond-false _ _ _ (not_from_true _ passed)

-- any other frame
pub taken_first : (level : ℕ) (bytes frame rest : List ℕ) → Splits bytes frame rest → passes level frame ≡ false
    → taken level (frames_of bytes) ≡ frame ∷ taken level (frames_of (drop (2 + length frame) bytes))
taken_first level bytes frame rest s p =
    rw (← s.rest_is) (ap (taken level) s.frames ∙ cond-true _ _ _ (not_from_false _ p))

-- it is the next one
pub first_found : (level : ℕ) (bytes frame rest : List ℕ) → Splits bytes frame rest → passes level frame ≡ false
    → next_frame level bytes ≡ record { moved = 2 + length frame; frame = frame }
first_found level bytes frame rest s p = s.found level ∙ cond-false _ _ _ p

-- a frame that is split off in two ways is one
pub split_once : (level : ℕ) (bytes frame rest : List ℕ) → split bytes ≡ Some (frame, rest) → passes level frame ≡ false
    → (frame' rest' : List ℕ) → split bytes ≡ Some (frame', rest') → passes level frame' ≡ false
split_once level bytes frame rest e p frame' rest' e' =
    ap (λ (o : Option (List ℕ × List ℕ)). passes level (unwrap_or o (frame, rest)).0) (sym e' ∙ e) ∙ p

pub left_later : (bytes frame rest : List ℕ) → Splits bytes frame rest → (moved : ℕ) → drop (2 + length frame + moved) bytes ≡ drop moved rest
left_later bytes frame rest s moved = rw s.rest_is (sym (drop-drop moved (2 + length frame) bytes))
