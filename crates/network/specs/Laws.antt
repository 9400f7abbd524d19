-- The bounds and the law of the network class.
use Rattle.std.specs.Prelude.{◌≡◌, ℕ, true, List, Some, None, Option, refl}
use Rattle.std.proofs.Common.{arith}
use Rattle.std.proofs.lemmas.Bool.{and_parts, leb-true, false≢true}
use Rattle.model.specs.Kinds.{declared_of}
use Rattle.model.specs.Requests.{Contents}
use Rattle.model.specs.Rules.{Bounds, Repeatable}
use Rattle.model.proofs.Rows.{row_in_range}
use Rattle.network.specs.declared.op.NetworkOp.{NetworkOp}
use Rattle.network.specs.declared.op.NetworkOp.TheVariants.{Send, Receive, Counters}
use Rattle.network.specs.Networks.{network_rules, network_settings, declared, act, op_of}

act_again : (o : Option NetworkOp) (x : Contents) (level again : ℕ) (payload : List ℕ) → declared_of declared o ≡ true
    → act o (act o x level payload).contents again payload ≡ act o x again payload
act_again None x level again payload d = refl
act_again (Some Send) x level again payload d = absurd (false≢true d)
act_again (Some Receive) x level again payload d = absurd (false≢true d)
act_again (Some Counters) x level again payload d = refl

pub repeatable : Repeatable network_rules
repeatable x level again kind a payload d = act_again (op_of kind) x level again payload d

pub bounds : Bounds network_rules
bounds = record {
  some_setting = omega arith;
  few_settings = omega arith;
  initials = λ k. (row_in_range network_settings k refl).0;
  values = λ k. (row_in_range network_settings k refl).1;
  names = λ n e. omega (arith, leb-true n 4026531839 (and_parts _ _ e).1);
  few_joined = omega arith;
  short_answers = omega arith;
}
