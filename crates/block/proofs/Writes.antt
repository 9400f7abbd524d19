-- A write that the class allows, in a memory of any length.
use Rattle.std.proofs.Common.{◌≡◌, ℕ, ◌*◌, true, List, length, Some, subst, refl, ap}
use Rattle.std.proofs.lemmas.Bool.{cond-true, eqb-true}
use Rattle.device.specs.Performing.{Performed, Allowed, allowed, permitted, outcome}
use Rattle.model.specs.Kinds.{takes_of}
use Rattle.model.specs.Requests.{untouched}
use Rattle.device.proofs.Outcomes.{allowed_if, parts}
use Rattle.block.specs.declared.op.BlockOp.TheVariants.{Write}
use Rattle.block.specs.Blocks.{block_rules, op_of, act, takes}
use Rattle.block.specs.Disks.{reach_of, blocks_of, beyond}
use Rattle.block.specs.Memories.{written}
use Rattle.block.proofs.Blocks.{block_written, beyond_written, length_written}

module _ (xs payload buffer : List ℕ) (level kind a : ℕ)
    (e : permitted block_rules op_of (reach_of (length xs)) level kind a (length payload) (length buffer) ≡ Some Write) where
  found : op_of kind ≡ Some Write
  found = (allowed_if block_rules op_of (reach_of (length xs)) level kind a (length payload) (length buffer) Write e).1

  test : allowed block_rules (reach_of (length xs)) level kind a (length payload) (length buffer) ≡ true
  test = (allowed_if block_rules op_of (reach_of (length xs)) level kind a (length payload) (length buffer) Write e).0

  given : Allowed block_rules (reach_of (length xs)) level kind a (length payload) (length buffer)
  given = parts block_rules (reach_of (length xs)) level kind a (length payload) (length buffer) test

  size : length payload ≡ 512
  size = eqb-true (length payload) 512 (subst (λ o. takes_of takes o (length payload) ≡ true) found given.size)

  pub beyond_kept : beyond (written (a * 512) payload xs) ≡ beyond xs
  beyond_kept = beyond_written xs payload a size given.address

  pub write_performed : Performed (reach_of (length xs)) buffer (outcome block_rules (reach_of (length xs)) (blocks_of xs) level kind a payload (length buffer))
      (reach_of (length (written (a * 512) payload xs))) (blocks_of (written (a * 512) payload xs)) buffer 0
  write_performed =
      rw (cond-true _ (act (op_of kind) (blocks_of xs) a payload) (untouched (blocks_of xs)) test, found)
      record {
        reach = ap reach_of (length_written xs payload a size given.address);
        contents = block_written xs payload a size given.address;
        buffer = refl;
        count = refl;
      }
