use Rattle.std.proofs.Common.{◌≡◌, ℕ, ◌+◌, Ok, Err, Result, sym, ap, ◌∙◌, arith}
use Rattle.store.proofs.InTurn.{near_puts}
use Rattle.std.proofs.lemmas.Bool.{cond-false, le-ltb}
use Rattle.store.specs.declared.store.Store.{Store}
use Rattle.store.specs.declared.store.StoreError.{StoreError}
use Rattle.store.specs.Stores.{blocks_in}
use Rattle.store.proofs.Keeping.{wrote, wrote_bytes, added, kept}
use Rattle.store.proofs.Recorded.{fits}
use Rattle.store.proofs.store.Store.append.Goals as goal

pub returns-in_err-put_blocks : goal.returns-in_err-put_blocks
returns-in_err-put_blocks c =
    let s = c.args.self.now in
    let t : Store = record { disk = c.put_blocks.new.medium; next = s.next } in
    let f = fits c.args.frame.now s.next (blocks_in s) c.in_ok-record.record c.reaches.result c.reaches.ensures.count c.in_ok-record.ensures in
    let w = wrote s t c.args.frame.now c.in_ok-record.record c.blocks-2.result.now c.put_blocks.result f c.blocks-2.ensures (λ h. near_puts _ _ h c.put_blocks.ensures) in
    let e : ◌≡◌ {A = Result Unit StoreError} (Err c.in_err-put_blocks.field-0.0) (Ok tt) = sym c.in_err-put_blocks.was ∙ w.0 in
    let z : ◌≡◌ {A = ℕ} 0 1 = cc in
    absurd (omega arith)

pub returns : goal.returns
returns c =
    let s = c.args.self.now in
    let x = c.in_ok-record.record in
    let t : Store = record { disk = c.put_blocks.new.medium; next = s.next + x.count } in
    let f = fits c.args.frame.now s.next (blocks_in s) x c.reaches.result c.reaches.ensures.count c.in_ok-record.ensures in
    let w = (wrote s t c.args.frame.now x c.blocks-2.result.now c.put_blocks.result f c.blocks-2.ensures (λ h. near_puts _ _ h c.put_blocks.ensures)).1 in
    record {
      verdict = sym (cond-false _ _ _ (le-ltb _ _ f.short) ∙ cond-false _ _ _ (le-ltb _ _ f.within));
      bytes = wrote_bytes s t c.args.frame.now w;
      next = ap (λ (m : ℕ). s.next + m) f.count;
      added = λ _. added s t c.args.frame.now w;
      keeps = kept s t c.args.frame.now w;
    }
