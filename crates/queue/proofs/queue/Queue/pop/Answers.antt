-- The heads account for one payload less.
use Rattle.queue.proofs.queue.Queue.pop.Goals as goal
use Rattle.std.proofs.Common.{length, sym, ap, arith, length-drop}
use Rattle.heads.specs.Heads.{total}
use Rattle.heads.proofs.Laid.{total_oldest}

pub invariant_of-self : goal.invariant_of-self
invariant_of-self c =
    let q = c.self.inside in
    let t = total_oldest q.heads.items c.in-Some.oldest (sym c.in-Some.ensures.value) in
    let d = length-drop c.in-Some.oldest.size q.payloads in
    let e = ap length c.skip.ensures in
    let h = ap total c.in-Some.ensures.items in
    let less = c.in-Some.ensures.len in
    record { few = omega arith; small = omega arith; sizes = omega arith }
