use Rattle.std.proofs.Common.{arith}
use Rattle.std.proofs.lemmas.Result.{err_from_is_err_and}
use Rattle.archive.proofs.Asking.{write_heard, wrote_ok, wrote_err}
use Rattle.archive.proofs.blocks.write_block.Goals as goal

pub returns-in_err-ask-clause-block : goal.returns-in_err-ask-clause-block
returns-in_err-ask-clause-block g c o w a =
    let p = err_from_is_err_and c.from_residual.result c.from_residual.ensures.1 in
    rw (p.1, p.2) (wrote_err (write_heard w a (omega arith) c.header.ensures (omega arith) (c.in_err-ask.ensures.heard o)))

pub returns-clause-block : goal.returns-clause-block
returns-clause-block g c o w a = wrote_ok (write_heard w a (omega arith) c.header.ensures (omega arith) (c.in_ok-ask.ensures.heard o))
