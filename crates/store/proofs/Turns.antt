-- Records in a memory of bytes: one block more of what is written or compared, and what a written record leaves.
use Rattle.std.proofs.Common.{◌≡◌, ℕ, zero, suc, ◌+◌, ◌-◌, ◌*◌, ◌≤◌, List, ◌∷◌, ◌++◌, length, take, drop, replicate, refl, sym, ap, ◌∙◌, arith, length-append, drop-drop, take-add, rules}
use lib.ListN.{length-replicate}
use lib.Seq.{paste}
use Rattle.std.proofs.lemmas.List.{same_lists, places, take-take, drop-take}
use Rattle.std.proofs.lemmas.List.Edits.{length-paste}
use Rattle.std.specs.Simd.{first_chunks}
use Rattle.store.specs.Records.{padded, blocks_of}

-- what is written behind what was written
pasted_on : (xs ys : List ℕ) (p n k : ℕ) → p + (n + k) ≤ length xs → n + k ≤ length ys
    → paste (paste xs p (take n ys) n) (p + n) (drop n ys) k ≡ paste xs p ys (n + k)
pasted_on xs ys p n k h l = same_lists _ _ (search (rules, places)) (λ i d lt. grind (arith, places))

-- two lists that are the same as far as n, and then as far as m more
same_on : (n m : ℕ) (xs ys : List ℕ) → take n xs ≡ take n ys → take m (drop n xs) ≡ take m (drop n ys) → take (n + m) xs ≡ take (n + m) ys
same_on n m xs ys e h = take-add n m xs ∙ (ap (λ (zs : List ℕ). zs ++ take m (drop n xs)) e ∙ (ap (λ (zs : List ℕ). take n ys ++ zs) h ∙ sym (take-add n m ys)))

same_front : (n m : ℕ) (xs ys : List ℕ) → take (n + m) xs ≡ take (n + m) ys → take n xs ≡ take n ys
same_front n m xs ys e = sym (take-take n (n + m) xs (omega arith)) ∙ (ap (take n) e ∙ take-take n (n + m) ys (omega arith))

same_back : (n m : ℕ) (xs ys : List ℕ) → take (n + m) xs ≡ take (n + m) ys → take m (drop n xs) ≡ take m (drop n ys)
same_back n m xs ys e = sym (drop-take n m xs) ∙ (ap (drop n) e ∙ drop-take n m ys)

-- one block more
pub written_on : (xs ys zs : List ℕ) (a k : ℕ) → (a + suc k) * 512 ≤ length xs → suc k * 512 ≤ length ys → zs ≡ paste xs (a * 512) (take 512 ys) 512
    → paste zs ((a + 1) * 512) (drop 512 ys) (k * 512) ≡ paste xs (a * 512) ys (suc k * 512)
written_on xs ys zs a k h l e =
    let p : (a + 1) * 512 ≡ a * 512 + 512 = omega arith in
    let n : suc k * 512 ≡ 512 + k * 512 = omega arith in
    rw (p, n, e) (pasted_on xs ys (a * 512) 512 (k * 512) (omega arith) (omega arith))

-- where the block at an address starts, and where the next
next_block : (xs : List ℕ) (a : ℕ) → drop ((a + 1) * 512) xs ≡ drop 512 (drop (a * 512) xs)
next_block xs a = let n : (a + 1) * 512 ≡ a * 512 + 512 = omega arith in ap (λ (i : ℕ). drop i xs) n ∙ sym (drop-drop 512 (a * 512) xs)

-- as many blocks as k are the same from block a on
abbrev pub Same : ℕ → ℕ → List ℕ → List ℕ → Type 0
Same k a xs ys = take (k * 512) (drop (a * 512) xs) ≡ take (k * 512) ys

-- one block more is the same
pub more_same : (k a : ℕ) (xs ys : List ℕ) → take 512 (drop (a * 512) xs) ≡ take 512 ys → Same k (a + 1) xs (drop 512 ys) → Same (suc k) a xs ys
more_same k a xs ys e h =
    let n : suc k * 512 ≡ 512 + k * 512 = omega arith in
    rw n (same_on 512 (k * 512) (drop (a * 512) xs) ys e (ap (take (k * 512)) (sym (next_block xs a)) ∙ h))

pub first_same : (k a : ℕ) (xs ys : List ℕ) → Same (suc k) a xs ys → take 512 (drop (a * 512) xs) ≡ take 512 ys
first_same k a xs ys e = let n : suc k * 512 ≡ 512 + k * 512 = omega arith in same_front 512 (k * 512) (drop (a * 512) xs) ys (rw n at e)

pub rest_same : (k a : ℕ) (xs ys : List ℕ) → Same (suc k) a xs ys → Same k (a + 1) xs (drop 512 ys)
rest_same k a xs ys e =
    let n : suc k * 512 ≡ 512 + k * 512 = omega arith in
    ap (take (k * 512)) (next_block xs a) ∙ same_back 512 (k * 512) (drop (a * 512) xs) ys (rw n at e)

-- a write keeps the length
pub same_length : (xs ys zs : List ℕ) (a i : ℕ) → zs ≡ paste xs (a * 512) ys (i * 512) → (a + i) * 512 ≤ length xs → i * 512 ≤ length ys → length zs ≡ length xs
same_length xs ys zs a i e h l = ap length e ∙ length-paste xs (a * 512) ys (i * 512) (omega arith) l

-- what was written is there
pub there_after : (xs ys : List ℕ) (p k : ℕ) → p + k ≤ length xs → k ≤ length ys → take k (drop p (paste xs p ys k)) ≡ take k ys
there_after xs ys p k h l = same_lists _ _ (search (rules, places)) (λ i d lt. grind (arith, places))

-- what stands before it is as it was
pub before_same : (xs ys : List ℕ) (p k q m : ℕ) → p + k ≤ length xs → k ≤ length ys → q + m ≤ p → take m (drop q (paste xs p ys k)) ≡ take m (drop q xs)
before_same xs ys p k q m h l b = same_lists _ _ (search (rules, places)) (λ i d lt. grind (arith, places))

pub padded_length : (frame : List ℕ) → length frame ≤ 1514 → length (padded frame) ≡ 1536
padded_length frame h =
    let zeros : List ℕ = replicate (1534 - length frame) 0 in
    let e = length-append frame zeros in
    let z = length-replicate {A = ℕ} (1534 - length frame) 0 in
    omega (arith, e, z)

-- the first of some blocks
pub few_chunks : (k m : ℕ) (xs : List ℕ) → k ≤ m → take k (first_chunks 512 m xs) ≡ first_chunks 512 k xs
few_chunks zero m xs h = refl
few_chunks (suc k) zero xs h = absurd (omega arith)
few_chunks (suc k) (suc m) xs h = ap (λ (bs : List (List ℕ)). take 512 xs ∷ bs) (few_chunks k m (drop 512 xs) (omega arith))

pub some_blocks : (k : ℕ) (xs : List ℕ) → k ≤ 3 → blocks_of k xs ≡ first_chunks 512 k xs
some_blocks k xs h = few_chunks k 3 xs h

pub many_blocks : (k : ℕ) (xs : List ℕ) → length (first_chunks 512 k xs) ≡ k
many_blocks zero xs = refl
many_blocks (suc k) xs = ap suc (many_blocks k (drop 512 xs))
