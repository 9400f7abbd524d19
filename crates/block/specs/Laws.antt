-- The bounds and the law of the block class.
use Rattle.std.specs.Prelude.{◌≡◌, ℕ, ◌+◌, ◌*◌, ◌≤◌, true, List, [], length, is_some, Some, None, Option, nat_le, refl}
use Rattle.std.proofs.Common.{sym, ap, ◌∙◌, ⊎_elim, arith, rules}
use Rattle.std.proofs.Math.Seq.{paste}
use Rattle.std.proofs.lemmas.List.{same_lists, places}
use Rattle.std.proofs.lemmas.List.Edits.{length-paste}
use Rattle.std.proofs.lemmas.Bool.{cond-true, cond-false, cases_Bool, and_parts, leb-true, eqb-true}
use Rattle.model.specs.Kinds.{declared_of}
use Rattle.model.specs.Requests.{Contents}
use Rattle.model.specs.Rules.{Bounds, Repeatable}
use Rattle.block.specs.declared.op.BlockOp.{BlockOp}
use Rattle.block.specs.declared.op.BlockOp.TheVariants.{Read, Write, Flush}
use Rattle.model.proofs.Rows.{row_in_range}
use Rattle.block.specs.Blocks.{block_rules, block_settings, with_block, fits, act, op_of}

pasted_twice : (xs ys : List ℕ) (a k : ℕ) → a + k ≤ length xs → length ys ≡ k → paste (paste xs a ys k) a ys k ≡ paste xs a ys k
pasted_twice xs ys a k h l = same_lists _ _ (search (rules, places)) (λ i d lt. grind (arith, places))

-- a write that is made twice is as once
pub rewritten : (a : ℕ) (ys xs : List ℕ) → with_block a ys (with_block a ys xs) ≡ with_block a ys xs
rewritten a ys xs =
    ⊎_elim
    (λ e.
    let parts = and_parts (nat_le (a * 512 + 512) (length xs)) _ e in
    let h : a * 512 + 512 ≤ length xs = leb-true _ _ parts.0 in
    let l : length ys ≡ 512 = eqb-true _ _ parts.1 in
    let once : with_block a ys xs ≡ paste xs (a * 512) ys 512 = cond-true _ _ _ e in
    let same : length (paste xs (a * 512) ys 512) ≡ length xs = length-paste xs (a * 512) ys 512 h (omega arith) in
    let still : fits a ys (paste xs (a * 512) ys 512) ≡ true = rw same e in
    ap (with_block a ys) once ∙ (cond-true _ _ _ still ∙ (pasted_twice xs ys (a * 512) 512 h l ∙ sym once)))
    (λ e. ap (with_block a ys) (cond-false _ _ _ e))
    (cases_Bool (fits a ys xs))

act_again : (o : Option BlockOp) (x : Contents) (a : ℕ) (payload : List ℕ) → act o (act o x a payload).contents a payload ≡ act o x a payload
act_again None x a payload = refl
act_again (Some Read) x a payload = refl
act_again (Some Write) x a payload =
    ap (λ (xs : List ℕ). record { contents = record { counters = x.counters; memory = xs }; answer = [] }) (rewritten a payload x.memory)
act_again (Some Flush) x a payload = refl

pub repeatable : Repeatable block_rules
repeatable x level again kind a payload d = act_again (op_of kind) x a payload

pub bounds : Bounds block_rules
bounds = record {
  some_setting = omega arith;
  few_settings = omega arith;
  initials = λ k. (row_in_range block_settings k refl).0;
  values = λ k. (row_in_range block_settings k refl).1;
  names = λ n e. omega (arith, leb-true n 3 (and_parts _ _ e).1);
  few_joined = omega arith;
  short_answers = omega arith;
}

-- every kind is declared
declared_all : (o : Option BlockOp) → is_some o ≡ declared_of (λ _. true) o
declared_all None = refl
declared_all (Some _) = refl

pub declares : (k : ℕ) → block_rules.declared k ≡ declared_of (λ _. true) (op_of k)
declares k = declared_all (op_of k)
