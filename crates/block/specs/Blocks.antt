-- The block class: what its requests do to a memory of blocks.
use Rattle.std.specs.Prelude.{ℕ, ◌+◌, ◌*◌, Bool, cond, ◌&&◌, List, [], ◌∷◌, length, take, drop, is_some, Some, None, Option, ◌==◌, nat_le}
use Rattle.std.proofs.Math.Seq.{paste}
use Rattle.model.specs.Requests.{Contents, Outcome, untouched}
use Rattle.model.specs.Kinds.{takes_of}
use Rattle.model.specs.Rules.{Rules, between}
use Rattle.model.specs.declared.setting.SettingRange.{SettingRange}
use Rattle.block.specs.declared.op.BlockOp.{BlockOp}
use Rattle.block.specs.declared.op.BlockOp.TheVariants.{Read, Write, Flush}

-- the number of each kind of request
abbrev pub kind_of : BlockOp → ℕ
kind_of Read = 1
kind_of Write = 2
kind_of Flush = 3

-- the kind of request that a number stands for
abbrev pub op_of : ℕ → Option BlockOp
op_of k = cond (k == 1) (Some Read) (cond (k == 2) (Some Write) (cond (k == 3) (Some Flush) None))

-- the payload lengths of each kind: a write has one block, the others nothing
abbrev pub takes : BlockOp → ℕ → Bool
takes Read n = n == 0
takes Write n = n == 512
takes Flush n = n == 0

-- the 512 bytes at an address
abbrev pub block_at : ℕ → List ℕ → List ℕ
block_at a xs = take 512 (drop (a * 512) xs)

-- whether a block of bytes fits at an address
abbrev pub fits : ℕ → List ℕ → List ℕ → Bool
fits a ys xs = nat_le (a * 512 + 512) (length xs) && length ys == 512

-- the memory with another block at an address; one that does not fit changes nothing
abbrev pub with_block : ℕ → List ℕ → List ℕ → List ℕ
with_block a ys xs = cond (fits a ys xs) (paste xs (a * 512) ys 512) xs

-- what each kind of request comes to
abbrev pub act : Option BlockOp → Contents → ℕ → List ℕ → Outcome
act None x a payload = untouched x
act (Some Read) x a payload = record { contents = x; answer = block_at a x.memory }
act (Some Write) x a payload = record { contents = record { counters = x.counters; memory = with_block a payload x.memory }; answer = [] }
act (Some Flush) x a payload = untouched x

-- write cache, read-ahead and idle seconds
abbrev pub block_settings : List SettingRange
block_settings = record { initial = 0; greatest = 1 } ∷ record { initial = 8; greatest = 64 } ∷ record { initial = 0; greatest = 3600 } ∷ []

abbrev pub block_rules : Rules
block_rules = record {
  settings = block_settings;
  name = between 0 3;
  limit = 4;
  longest = 512;
  kind = λ k. is_some (op_of k);
  takes = λ k n. takes_of takes (op_of k) n;
  declared = λ k. is_some (op_of k);
  holds = λ reach x. nat_le reach 1024 && (length x.memory == reach * 512);
  perform = λ x level k a payload. act (op_of k) x a payload;
}
