-- A frame laid out behind its length.
use Rattle.std.proofs.Common.{◌≡◌, ℕ, zero, suc, ◌+◌, ◌-◌, ◌/◌, ◌%◌, ◌≤◌, List, [], ◌∷◌, ◌++◌, length, drop, set, get_or, replicate, Some, sym, ap, ◌∙◌, suc-add, zero-add, arith, drop-drop}
use Rattle.std.specs.Int.{bytes_high_first}
use borrow.Rule.Slice.PartMut.{put_mid}
use Rattle.std.proofs.lemmas.Bool.{cond-false, le-ltb}
use Rattle.store.specs.Records.{be2, blocks_for, padded}
use Rattle.store.specs.Blocks.{record_blocks}

laid : (xs ys zs : List ℕ) (a b : ℕ) → zs ≡ ys → 2 + length ys ≤ length xs
    → put_mid 2 ((2 + length ys) - 2) (set (set xs 0 a) 1 b) zs ≡ a ∷ (b ∷ (ys ++ drop (2 + length ys) xs))
laid [] ys zs a b e h = absurd (omega arith)
laid (x ∷ []) ys zs a b e h = absurd (omega arith)
laid (x ∷ (y ∷ rest)) ys zs a b e h =
    let k : (2 + length ys) - 2 ≡ length ys = omega arith in
    rw (k, e) (ap (λ (r : List ℕ). a ∷ (b ∷ (ys ++ r))) (drop-drop (length ys) 2 (x ∷ (y ∷ rest))))

abbrev zeros : ℕ → List ℕ
zeros n = replicate n 0

fewer : (m k : ℕ) → drop m (zeros (m + k)) ≡ zeros k
fewer zero k = ap zeros (zero-add k)
fewer (suc m) k = ap (λ (n : ℕ). drop (suc m) (zeros n)) (suc-add m k) ∙ fewer m k

-- zeros past the first m
zeros_left : (n m : ℕ) → m ≤ n → drop m (zeros n) ≡ zeros (n - m)
zeros_left n m h =
    let e : n ≡ m + (n - m) = omega arith in
    ap (λ (k : ℕ). drop m (zeros k)) e ∙ fewer m (n - m)

-- the two length bytes, the frame and zeros
pub bytes_laid : (frame zs size : List ℕ) → length frame ≤ 1514 → size ≡ bytes_high_first 2 (length frame) → zs ≡ frame
    → put_mid 2 ((2 + length frame) - 2) (set (set (replicate 1536 0) 0 (get_or size 0 0)) 1 (get_or size 1 0)) zs ≡ padded frame
bytes_laid frame zs size h s e =
    let high : get_or size 0 0 ≡ length frame / 256 = ap (λ (xs : List ℕ). get_or xs 0 0) s ∙ omega arith in
    let low : get_or size 1 0 ≡ length frame % 256 = ap (λ (xs : List ℕ). get_or xs 1 0) s ∙ omega arith in
    let left : 1536 - (2 + length frame) ≡ 1534 - length frame = omega arith in
    laid (zeros 1536) frame zs _ _ e (omega arith)
    ∙ rw (high, low) (ap (λ (r : List ℕ). be2 (length frame) ++ (frame ++ r)) (zeros_left 1536 (2 + length frame) (omega arith) ∙ ap zeros left))

pub its_record : (frame bytes : List ℕ) (n : ℕ) → length frame ≤ 1514 → n ≡ blocks_for (length frame) → bytes ≡ padded frame
    → Some (record { count = n; bytes = bytes }) ≡ record_blocks frame
its_record frame bytes n h many e =
    ap (λ (k : ℕ). Some (record { count = k; bytes = bytes })) many
    ∙ (ap (λ (xs : List ℕ). Some (record { count = blocks_for (length frame); bytes = xs })) e ∙ sym (cond-false _ _ _ (le-ltb _ _ h)))
