-- Blocks as the code cuts and writes them, in a memory of any length.
use Rattle.std.proofs.Common.{◌≡◌, ℕ, ◌+◌, ◌-◌, ◌*◌, ◌<◌, ◌≤◌, true, leb, List, [], ◌++◌, length, take, drop, sym, ap, ◌∙◌, arith, rules}
use lib.Seq.{paste}
use Rattle.std.proofs.lemmas.List.{take-take, drop-take, same_lists, places, length-take, take-append-drop}
use Rattle.std.proofs.lemmas.List.Edits.{length-paste}
use Rattle.std.proofs.lemmas.Bool.{cond-true, and_from, le-leb, eq-eqb}
use Rattle.model.specs.Requests.{Contents}
use Rattle.block.specs.Blocks.{block_at, with_block, fits}
use Rattle.block.specs.Disks.{reach_of, blocks_of, beyond}
use Rattle.block.specs.Memories.{written}

pub inside : (xs : List ℕ) (a k n : ℕ) → a + k ≤ n → take k (drop a (take n xs)) ≡ take k (drop a xs)
inside xs a k n h = sym (drop-take a k (take n xs)) ∙ ap (drop a) (take-take (a + k) n xs h) ∙ drop-take a k xs

pasted_within : (xs ys : List ℕ) (a k n : ℕ) → length ys ≡ k → a + k ≤ n → n ≤ length xs → take n (paste xs a ys k) ≡ paste (take n xs) a ys k
pasted_within xs ys a k n e h l = same_lists _ _ (search (rules, places)) (λ i d lt. grind (arith, places))

pasted_before : (xs ys : List ℕ) (a k n : ℕ) → length ys ≡ k → a + k ≤ n → n ≤ length xs → drop n (paste xs a ys k) ≡ drop n xs
pasted_before xs ys a k n e h l = same_lists _ _ (search (rules, places)) (λ i d lt. grind (arith, places))

pub block_read : (xs : List ℕ) (a : ℕ) → a < reach_of (length xs) → take ((a * 512 + 512) - a * 512) (drop (a * 512) xs) ≡ block_at a (blocks_of xs).memory
block_read xs a h =
    let e : (a * 512 + 512) - a * 512 ≡ 512 = omega arith in
    rw e (sym (inside xs (a * 512) 512 (reach_of (length xs) * 512) (omega arith)))

-- how many bytes the blocks have
pub blocks_length : (xs : List ℕ) → length (blocks_of xs).memory ≡ reach_of (length xs) * 512
blocks_length xs = simp length-take (omega arith)

-- a block of 512 bytes at an address below the reach fits
pub fitting : (xs ys : List ℕ) (a : ℕ) → length ys ≡ 512 → a < reach_of (length xs) → fits a ys (blocks_of xs).memory ≡ true
fitting xs ys a l h =
    let n = blocks_length xs in
    and_from _ _ (le-leb (a * 512 + 512) (length (blocks_of xs).memory) (omega (arith, n))) (eq-eqb _ _ l)

-- a memory after a block is written at an address below its reach
module _ (xs zs : List ℕ) (a : ℕ) (z : length zs ≡ 512) (h : a < reach_of (length xs)) where
  room : a * 512 + 512 ≤ reach_of (length xs) * 512
  room = omega (arith, h)

  same_length : length (paste xs (a * 512) zs 512) ≡ length xs
  same_length = length-paste xs (a * 512) zs 512 (omega arith) (omega arith)

  written_whole : written (a * 512) zs xs ≡ paste xs (a * 512) zs 512
  written_whole = rw z (cond-true (leb (a * 512 + 512) (length xs)) (paste xs (a * 512) zs 512) xs (le-leb (a * 512 + 512) (length xs) (omega arith)))

  pub block_written : blocks_of (written (a * 512) zs xs) ≡ record { counters = []; memory = with_block a zs (blocks_of xs).memory }
  block_written =
      ap blocks_of written_whole
      ∙ (ap (λ (m : ℕ). record { counters = []; memory = take (reach_of m * 512) (paste xs (a * 512) zs 512) }) same_length
      ∙ ap (λ (m : List ℕ). record { counters = []; memory = m })
      (pasted_within xs zs (a * 512) 512 (reach_of (length xs) * 512) z room (omega arith) ∙ sym (cond-true _ _ _ (fitting xs zs a z h))))

  -- its length, and the bytes beyond the reach, stay as they are
  pub length_written : length (written (a * 512) zs xs) ≡ length xs
  length_written = ap length written_whole ∙ same_length

  pub beyond_written : beyond (written (a * 512) zs xs) ≡ beyond xs
  beyond_written =
      ap beyond written_whole
      ∙ (ap (λ (m : ℕ). drop (reach_of m * 512) (paste xs (a * 512) zs 512)) same_length
      ∙ pasted_before xs zs (a * 512) 512 (reach_of (length xs) * 512) z room (omega arith))

pasted_front : (xs ys : List ℕ) (a k n : ℕ) → length ys ≡ k → a + k ≤ n → n ≤ length xs → paste (take n xs) a ys k ++ drop n xs ≡ paste xs a ys k
pasted_front xs ys a k n e h l = same_lists _ _ (search (rules, places)) (λ i d lt. grind (arith, places))

-- a memory is its blocks and the bytes beyond them
pub whole : (xs : List ℕ) → xs ≡ (blocks_of xs).memory ++ beyond xs
whole xs = sym (take-append-drop (reach_of (length xs) * 512) xs)

-- a whole memory whose blocks and whose bytes beyond are those of another
pub whole_same : (xs ys : List ℕ) → blocks_of ys ≡ blocks_of xs → beyond ys ≡ beyond xs → ys ≡ xs
whole_same xs ys e b = whole ys ∙ (ap (λ (x : Contents). x.memory ++ beyond ys) e ∙ (ap (λ (r : List ℕ). (blocks_of xs).memory ++ r) b ∙ sym (whole xs)))

-- a whole memory after a write
pub whole_written : (xs ys zs : List ℕ) (a : ℕ) → length zs ≡ 512 → a < reach_of (length xs)
    → blocks_of ys ≡ record { counters = []; memory = with_block a zs (blocks_of xs).memory } → beyond ys ≡ beyond xs
    → ys ≡ paste xs (a * 512) zs 512
whole_written xs ys zs a z h e b =
    whole ys
    ∙ (ap (λ (x : Contents). x.memory ++ beyond ys) e
    ∙ (ap (λ (r : List ℕ). with_block a zs (blocks_of xs).memory ++ r) b
    ∙ (ap (λ (r : List ℕ). r ++ beyond xs) (cond-true _ _ _ (fitting xs zs a z h))
    ∙ pasted_front xs zs (a * 512) 512 (reach_of (length xs) * 512) z (omega arith) (omega arith))))
