-- The heads account for one payload more, and there is room for them.
use Rattle.queue.proofs.queue.Queue.push.Goals as goal
use Rattle.std.proofs.Common.{false, ap, arith, length, length-append}
use Rattle.std.proofs.lemmas.List.Sums.{sum_by_push}
use Rattle.heads.specs.Heads.{total}
use Rattle.heads.specs.Kept.{weight}
use Rattle.heads.proofs.Laid.{length_laid, weight_laid}

pub invariant_of-self : goal.invariant_of-self
invariant_of-self c =
    let q = c.self.inside in
    let w = weight_laid q.heads.items q.payloads (omega arith) in
    let v = ap weight c.self.view_is in
    let n = length_laid q.heads.items q.payloads in
    let m = ap length c.self.view_is in
    let more = c.push.ensures.len in
    let ok = c.in_ok-admit.ensures.ok in
    let b = ap length c.append.ensures in
    let l = length-append q.payloads c.args.payload.now in
    let h = ap total c.push.ensures.items in
    let s = sum_by_push (λ x. x.size) q.heads.items (record { header = c.args.header; size = length c.args.payload.now; handed = false }) in
    record { few = omega arith; small = omega arith; sizes = omega arith }
