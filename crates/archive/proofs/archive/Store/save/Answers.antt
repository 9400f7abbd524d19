use Rattle.std.proofs.Common.{◌≡◌, ℕ, ◌+◌, length, Ok, Err, Result, sym, refl, ap, subst, arith}
use Rattle.store.proofs.InTurn.{near_puts}
use Rattle.std.proofs.lemmas.Result.{err_from_is_err_and}
use Rattle.store.specs.Records.{blocks_for, padded}
use Rattle.archive.specs.declared.archive.StoreError.{StoreError}
use Rattle.archive.specs.Disks.{Put}
use Rattle.archive.specs.Rooms.{Barred}
use Rattle.archive.specs.Stores.{is_barred}
use Rattle.archive.proofs.Keeping.{put_keeps, put_undamaged, put_saves, put_stops, Ready, ready, barred, barred_undamaged, in_reach, put_record}
use Rattle.archive.proofs.Putting.{puts_keep}
use Rattle.archive.proofs.archive.Store.save.Goals as goal

same_error : {a b : StoreError} → ◌≡◌ {A = Result ℕ StoreError} (Err a) (Err b) → a ≡ b
same_error h = cc

pub returns-in_err-record-clause-saved : goal.returns-in_err-record-clause-saved
returns-in_err-record-clause-saved g c o =
    let p = err_from_is_err_and c.from_residual.result c.from_residual.ensures.1 in
    rw (p.1, p.2) (is_barred (barred (c.in_err-record.ensures.room o)) refl refl)

pub returns-in_err-record-clause-undamaged : goal.returns-in_err-record-clause-undamaged
returns-in_err-record-clause-undamaged g c o l =
    let p = err_from_is_err_and c.from_residual.result c.from_residual.ensures.1 in
    rw (p.1, p.2) (λ q. barred_undamaged (subst (Barred (g.D.Driver.state c.args.self.now.driver) c.args.self.now.next c.args.frame.now) (same_error q) (barred (c.in_err-record.ensures.room o))))

pub shape_of-self : goal.shape_of-self
shape_of-self g c =
    let d = g.D.Driver in
    sym (puts_keep (λ m. m.driver.ghost_name) (λ m. d.ok m.driver.now) (λ m. d.state m.driver.now) (λ m. d.fault m.driver.now)
    (near_puts _ _ (in_reach c.args.self.now.next c.in_ok-record.record c.in_ok-record.ensures.safe c.blocks-2.ensures) c.put_blocks.ensures))

pub returns-in_err-put_blocks : goal.returns-in_err-put_blocks
returns-in_err-put_blocks g c =
    let d = g.D.Driver in
    let s = d.state c.args.self.now.driver in
    let next = c.args.self.now.next in
    let frame = c.args.frame.now in
    let x = c.in_ok-record.record in
    let p = err_from_is_err_and c.from_residual-in_err-put_blocks.result c.from_residual-in_err-put_blocks.ensures.1 in
    let w : d.ok c.args.self.now.driver → Ready s next frame x = λ o. ready (c.in_ok-record.ensures.room o) in
    let made = λ (o : d.ok c.args.self.now.driver). put_record next x c.in_ok-record.ensures.safe c.blocks-2.ensures _ c.put_blocks.new.medium (λ m. m.driver.ghost_name) (λ m. d.ok m.driver.now) (λ m. d.state m.driver.now) (λ m. d.fault m.driver.now)
    (near_puts _ _ (in_reach next x c.in_ok-record.ensures.safe c.blocks-2.ensures) c.in_err-put_blocks.ensures) o (w o) in
    record {
      fine = λ o. (made o).0;
      saved = λ o. rw (p.1, p.2) (put_stops s next frame (w o).free (made o).1);
      keeps = λ o. put_keeps s next frame (w o).free.fitting.short (made o).1;
      undamaged = λ o l. rw (p.1, p.2) (λ q. put_undamaged s next frame (w o).free.fitting.short (subst (λ (e : StoreError). Put s next (blocks_for (length frame)) (padded frame) (d.fault c.put_blocks.new.medium.driver.now) (Err e) (d.state c.put_blocks.new.medium.driver.now)) (same_error q) (made o).1) l);
    }

pub returns : goal.returns
returns g c =
    let d = g.D.Driver in
    let s = d.state c.args.self.now.driver in
    let next = c.args.self.now.next in
    let frame = c.args.frame.now in
    let x = c.in_ok-record.record in
    let w : d.ok c.args.self.now.driver → Ready s next frame x = λ o. ready (c.in_ok-record.ensures.room o) in
    let made = λ (o : d.ok c.args.self.now.driver). put_record next x c.in_ok-record.ensures.safe c.blocks-2.ensures _ c.put_blocks.new.medium (λ m. m.driver.ghost_name) (λ m. d.ok m.driver.now) (λ m. d.state m.driver.now) (λ m. d.fault m.driver.now)
    (near_puts _ _ (in_reach next x c.in_ok-record.ensures.safe c.blocks-2.ensures) c.in_ok-put_blocks.ensures) o (w o) in
    record {
      fine = λ o. (made o).0;
      saved = λ o. put_saves s next frame (w o).free _ (ap (λ (k : ℕ). next + k) (w o).count) (made o).1;
      keeps = λ o. put_keeps s next frame (w o).free.fitting.short (made o).1;
      undamaged = λ o l q. absurd (no q);
    }
  where
    no : {a : ℕ} {b : StoreError} → ◌≡◌ {A = Result ℕ StoreError} (Ok a) (Err b) → ⊥
    no h = let z : ◌≡◌ {A = ℕ} 0 1 = cc in omega arith
