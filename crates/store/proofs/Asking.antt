-- What a disk makes of a request to write or to read one of its blocks.
use Rattle.std.proofs.Common.{◌≡◌, ℕ, ◌+◌, ◌-◌, ◌*◌, ◌<◌, ◌≤◌, List, [], ◌++◌, length, take, drop, Some, sym, ap, ◌∙◌, arith}
use lib.Seq.{paste}
use Rattle.std.proofs.lemmas.List.{append-nil, drop_all, length-take, length-drop}
use Rattle.std.proofs.lemmas.Bool.{cond-true, and_from, lt-ltb, le-leb, eq-eqb}
use Rattle.model.specs.Requests.{Contents, Outcome, onto}
use Rattle.device.specs.Performing.{outcome, Performed}
use Rattle.block.specs.declared.op.BlockOp.TheVariants.{Read, Write}
use Rattle.block.specs.Blocks.{block_rules, block_at, act}
use Rattle.block.specs.Disks.{reach_of, blocks_of, beyond}
use Rattle.block.proofs.Blocks.{whole_same, whole_written, block_read}

write_outcome : (reach a room : ℕ) (x : Contents) (zs : List ℕ) → a < reach → length zs ≡ 512 → 512 ≤ room
    → outcome block_rules reach x 0 2 a zs room ≡ act (Some Write) x a zs
write_outcome reach a room x zs h l r = cond-true _ _ _ (and_from _ _ (lt-ltb a reach h) (and_from _ _ (eq-eqb (length zs) 512 l) (le-leb 512 room r)))

read_outcome : (reach a room : ℕ) (x : Contents) → a < reach → 512 ≤ room → outcome block_rules reach x 0 1 a [] room ≡ act (Some Read) x a []
read_outcome reach a room x h r = cond-true _ _ _ (and_from _ _ (lt-ltb a reach h) (le-leb 512 room r))

pub written : (xs ys zs buffer buffer' : List ℕ) (k a n : ℕ) → k ≡ 2 → length zs ≡ 512 → a < reach_of (length xs) → 512 ≤ length buffer
    → Performed (reach_of (length xs)) buffer (outcome block_rules (reach_of (length xs)) (blocks_of xs) 0 k a zs (length buffer)) (reach_of (length ys)) (blocks_of ys) buffer' n
    → beyond ys ≡ beyond xs → ys ≡ paste xs (a * 512) zs 512
written xs ys zs buffer buffer' k a n e z h r p b =
    whole_written xs ys zs a z h
    (p.contents ∙ (ap (λ (i : ℕ). (outcome block_rules (reach_of (length xs)) (blocks_of xs) 0 i a zs (length buffer)).contents) e
    ∙ ap (λ (o : Outcome). o.contents) (write_outcome (reach_of (length xs)) a (length buffer) (blocks_of xs) zs h z r)))
    b

pub record ReadBack (xs ys buffer' : List ℕ) (a : ℕ) : Type 0 where
  pub same : ys ≡ xs
  pub bytes : buffer' ≡ take 512 (drop (a * 512) xs)

pub read_back : (xs ys buffer buffer' : List ℕ) (k a n : ℕ) → k ≡ 1 → a < reach_of (length xs) → length buffer ≡ 512
    → Performed (reach_of (length xs)) buffer (outcome block_rules (reach_of (length xs)) (blocks_of xs) 0 k a [] (length buffer)) (reach_of (length ys)) (blocks_of ys) buffer' n
    → beyond ys ≡ beyond xs → ReadBack xs ys buffer' a
read_back xs ys buffer buffer' k a n e h r p b =
    let o = ap (λ (i : ℕ). outcome block_rules (reach_of (length xs)) (blocks_of xs) 0 i a [] (length buffer)) e ∙ read_outcome (reach_of (length xs)) a (length buffer) (blocks_of xs) h (omega arith) in
    let cut : (a * 512 + 512) - a * 512 ≡ 512 = omega arith in
    let here : block_at a (blocks_of xs).memory ≡ take 512 (drop (a * 512) xs) = sym (block_read xs a h) ∙ ap (λ (i : ℕ). take i (drop (a * 512) xs)) cut in
    let long : length (block_at a (blocks_of xs).memory) ≡ 512 = simp (length-take, length-drop) (omega arith) in
    record {
      same = whole_same xs ys (p.contents ∙ ap (λ (w : Outcome). w.contents) o) b;
      bytes = p.buffer ∙ (ap (λ (w : Outcome). onto w.answer buffer) o
          ∙ (ap (λ (rest : List ℕ). block_at a (blocks_of xs).memory ++ rest) (drop_all _ buffer (omega arith)) ∙ (append-nil _ ∙ here)));
    }
