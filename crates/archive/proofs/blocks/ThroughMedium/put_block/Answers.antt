use Rattle.std.proofs.Common.{Bool, Ok, refl, subst}
use Rattle.std.proofs.lemmas.Result.{err_from_is_err_and}
use Rattle.archive.specs.Disks.{Compared}
use Rattle.archive.proofs.Putting.{written, put_unwritten, put_unread, put_back, put_damaged, read_after}
use Rattle.archive.proofs.blocks.ThroughMedium.put_block.Goals as goal

pub returns-in_err-write_block : goal.returns-in_err-write_block
returns-in_err-write_block g c =
    let d = g.D.Driver in
    let p = err_from_is_err_and c.from_residual.result c.from_residual.ensures.1 in (
      refl,
      (λ o. (
        c.write_block.ensures.fine o,
        (λ w a l. rw (p.1, p.2) (put_unwritten (d.state c.args.self.now.driver.now) c.args.address c.args.block.now (d.fault c.write_block.new.driver) l (c.in_err-write_block.ensures.block o w a))),
      )),
    )

pub returns-in_err-has_block : goal.returns-in_err-has_block
returns-in_err-has_block g c =
    let s = g.D.Driver.state c.args.self.now.driver.now in
    let f = g.D.Driver.fault c.has_block.new.self.driver.now in
    let b = c.args.block.now in
    let p = err_from_is_err_and c.from_residual-in_err-has_block.result c.from_residual-in_err-has_block.ensures.1 in (
      c.in_err-has_block.ensures.0,
      (λ o.
          let r = c.in_err-has_block.ensures.1 (c.write_block.ensures.fine o) in (
            r.0,
            (λ w a l. rw (p.1, p.2) (put_unread s c.args.address b f l (read_after s c.args.address b f l (c.in_ok-write_block.ensures.block o w a) a r.1))),
          )),
    )

pub returns-then-branch : goal.returns-then-branch
returns-then-branch g c =
    let s = g.D.Driver.state c.args.self.now.driver.now in
    let t = g.D.Driver.state c.has_block.new.self.driver.now in
    let f = g.D.Driver.fault c.has_block.new.self.driver.now in
    let b = c.args.block.now in (
      c.in_ok-has_block.ensures.0,
      (λ o.
          let r = c.in_ok-has_block.ensures.1 (c.write_block.ensures.fine o) in (
            r.0,
            (λ w a l.
                put_back s c.args.address b f l
                (subst (λ (v : Bool). Compared (written s c.args.address b f l) c.args.address b f (Ok v) t) c.if-branch.true
                (read_after s c.args.address b f l (c.in_ok-write_block.ensures.block o w a) a r.1))),
          )),
    )

pub returns-else-branch : goal.returns-else-branch
returns-else-branch g c =
    let s = g.D.Driver.state c.args.self.now.driver.now in
    let t = g.D.Driver.state c.has_block.new.self.driver.now in
    let f = g.D.Driver.fault c.has_block.new.self.driver.now in
    let b = c.args.block.now in (
      c.in_ok-has_block.ensures.0,
      (λ o.
          let r = c.in_ok-has_block.ensures.1 (c.write_block.ensures.fine o) in (
            r.0,
            (λ w a l.
                put_damaged s c.args.address b f l a
                (subst (λ (v : Bool). Compared (written s c.args.address b f l) c.args.address b f (Ok v) t) c.if-branch.false
                (read_after s c.args.address b f l (c.in_ok-write_block.ensures.block o w a) a r.1))),
          )),
    )
