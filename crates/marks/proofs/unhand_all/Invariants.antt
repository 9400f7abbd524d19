-- The entries before the index have lost their marks, and the others are as they were.
use Rattle.std.proofs.Common.{◌≡◌, false, ◌++◌, map, take, drop}
use Rattle.marks.proofs.unhand_all.Given as goal

abbrev pub invariant-loop-x : goal.invariant-loop-x
invariant-loop-x g l = l.x-items ≡ map (g.T.Marked.remarked false) (take l.x-index l.fn.xs) ++ drop l.x-index l.fn.xs
