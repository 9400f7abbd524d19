use Rattle.std.proofs.Common.{refl, arith}
use Rattle.std.proofs.lemmas.Slice.Eq.{slice_eq-Decides}
use Rattle.std.proofs.lemmas.Result.{err_from_is_err_and}
use Rattle.std.proofs.lemmas.Bool.{lt-leb}
use Rattle.std.proofs.lemmas.Bool.Decides.{Decides-eqb}
use Rattle.archive.proofs.Asking.{read_heard, read_err, compared_by, too_few}
use Rattle.archive.proofs.blocks.ThroughMedium.has_block.Goals as goal

pub returns-in_err-length : goal.returns-in_err-length
returns-in_err-length g c =
    let p = err_from_is_err_and c.from_residual.result c.from_residual.ensures.1 in (
      refl,
      (λ o. (c.ask.ensures.fine o, (λ w a l. rw (p.1, p.2) (read_err c.args.block.now (read_heard w a (omega arith) c.header.ensures (c.in_err-length.ensures.heard o)))))),
    )

pub returns-then-length-ge-BLOCK : goal.returns-then-length-ge-BLOCK
returns-then-length-ge-BLOCK g c = (
  refl,
  (λ o. (
    c.ask.ensures.fine o,
    (λ w a l.
        compared_by c.args.block.now (omega arith) c.if-length-ge-BLOCK.true (slice_eq-Decides Decides-eqb _ _ _ c.eq.ensures)
        (read_heard w a (omega arith) c.header.ensures (c.in_ok-length.ensures.heard o))),
  )),
)

pub returns-else-length-ge-BLOCK : goal.returns-else-length-ge-BLOCK
returns-else-length-ge-BLOCK g c = (
  refl,
  (λ o. (
    c.ask.ensures.fine o,
    (λ w a l.
        rw (lt-leb 512 c.in_ok-length.length c.if-length-ge-BLOCK.false)
        (too_few c.args.block.now l c.if-length-ge-BLOCK.false (read_heard w a (omega arith) c.header.ensures (c.in_ok-length.ensures.heard o)))),
  )),
)
