use Rattle.std.proofs.Common.{rules, refl, sym}
use Rattle.fault.proofs.parts.Failure.answer.Goals as goal
use Rattle.fault.proofs.parts.Failure.answer.Goals.{in-Unmade, in-Dropped}

pub returns-clause-below : goal.returns-clause-below
returns-clause-below g c = elim c.match-self.branch [
  | in-Unmade w ↦ search rules
  | in-Dropped w ↦ rw w.in-Dropped.is (w.call.result, record { shown = _; shows = refl; left = _; met = w.call.ensures; leaves = sym w.below-is })
]
