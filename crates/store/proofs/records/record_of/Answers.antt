use Rattle.std.proofs.Common.{◌≡◌, Some, rules}
use Rattle.store.proofs.Laying.{bytes_laid, its_record}
use Rattle.store.proofs.records.record_of.Goals as goal

pub returns : goal.returns
returns c =
    let some : c.blocks_for.result ≡ Some c.in_ok-count.count = search rules in
    let fits = rw some at c.blocks_for.ensures in
    its_record c.args.frame.now _ c.in_ok-count.count fits.0 fits.1
    (bytes_laid c.args.frame.now c.copy_from_slice.new.self c.to_be_bytes.result fits.0 c.to_be_bytes.ensures c.copy_from_slice.ensures.after)
