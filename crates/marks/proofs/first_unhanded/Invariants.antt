-- No entry before the index is unhanded.
use Rattle.std.proofs.Common.{◌≡◌, drop}
use Rattle.marks.specs.First.{firstFrom}
use Rattle.marks.proofs.first_unhanded.Given as goal

abbrev pub invariant-loop-i : goal.invariant-loop-i
invariant-loop-i g l = firstFrom g.T.Marked.handed 0 l.xs ≡ firstFrom g.T.Marked.handed l.i (drop l.i l.xs)
