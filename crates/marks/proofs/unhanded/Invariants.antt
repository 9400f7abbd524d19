-- The count so far is that of the entries before the index.
use Rattle.std.proofs.Common.{◌≡◌, ◌≤◌, not, take, count_by}
use Rattle.marks.proofs.unhanded.Given as goal

abbrev pub invariant-loop-x : goal.invariant-loop-x
invariant-loop-x g l = (l.n ≤ l.x-index) × (l.n ≡ count_by (λ x. not (g.T.Marked.handed x)) (take l.x-index l.xs))
