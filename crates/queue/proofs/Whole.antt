-- The limits of a queue, as facts of the list that it keeps.
use Rattle.std.proofs.Common.{◌≤◌, length, arith}
use Rattle.heads.specs.Limits.{most, capacity}
use Rattle.heads.specs.Kept.{weight}
use Rattle.heads.proofs.Laid.{length_laid, weight_laid}
use Rattle.queue.specs.declared.queue.Queue.TheInside.{Inside}
use Rattle.queue.specs.Layout.{requests, Whole}

pub kept_few : (q : Inside) → Whole q → length (requests q) ≤ most
kept_few q w =
    let few = w.few in
    let l = length_laid q.heads.items q.payloads in
    omega arith

pub kept_small : (q : Inside) → Whole q → weight (requests q) ≤ capacity
kept_small q w =
    let small = w.small in
    let sizes = w.sizes in
    let l = weight_laid q.heads.items q.payloads (omega arith) in
    omega arith
