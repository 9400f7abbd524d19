use Rattle.std.proofs.Common.{sym, refl}
use Rattle.store.proofs.InTurn.{near_finds}
use Rattle.std.proofs.lemmas.Result.{err_from_is_err_and}
use Rattle.archive.specs.Stores.{looks_barred}
use Rattle.archive.proofs.Keeping.{found_verifies, Ready, ready, barred, in_reach, found_record}
use Rattle.archive.proofs.Putting.{finds_keep}
use Rattle.archive.proofs.archive.Store.verify.Goals as goal

pub returns-in_err-record-clause-verified : goal.returns-in_err-record-clause-verified
returns-in_err-record-clause-verified g c o =
    let p = err_from_is_err_and c.from_residual.result c.from_residual.ensures.1 in
    rw (p.1, p.2) (looks_barred (barred (c.in_err-record.ensures.room o)) refl)

pub shape_of-self : goal.shape_of-self
shape_of-self g c =
    let d = g.D.Driver in
    sym (finds_keep (λ m. m.driver.ghost_name) (λ m. d.ok m.driver.now) (λ m. d.state m.driver.now) (λ m. d.fault m.driver.now)
    (near_finds _ _ (in_reach c.args.first c.in_ok-record.record c.in_ok-record.ensures.safe c.blocks-2.ensures) c.has_blocks.ensures))

pub returns : goal.returns
returns g c =
    let d = g.D.Driver in
    let s = d.state c.args.self.now.driver in
    let frame = c.args.frame.now in
    let x = c.in_ok-record.record in
    let w : d.ok c.args.self.now.driver → Ready s c.args.first frame x = λ o. ready (c.in_ok-record.ensures.room o) in
    let made = λ (o : d.ok c.args.self.now.driver). found_record c.args.first x c.in_ok-record.ensures.safe c.blocks-2.ensures _ c.has_blocks.new.medium (λ m. m.driver.ghost_name) (λ m. d.ok m.driver.now) (λ m. d.state m.driver.now) (λ m. d.fault m.driver.now)
    (near_finds _ _ (in_reach c.args.first x c.in_ok-record.ensures.safe c.blocks-2.ensures) c.has_blocks.ensures) o (w o) in
    record {
      fine = λ o. (made o).0;
      verified = λ o. found_verifies s c.args.first frame (w o).free (made o).1;
      next = refl;
    }
