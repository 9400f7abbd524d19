use Rattle.std.proofs.Common.{refl, sym}
use Rattle.fault.proofs.parts.Faulty.pass.Goals as goal
use Rattle.fault.proofs.parts.Faulty.pass.Goals.{in-None, in-Some}

pub returns-clause-below : goal.returns-clause-below
returns-clause-below g c = elim c.match-next.branch [
  | in-None w ↦ simp (sym w.in-None.ensures.turn, c.heed.ensures.same, w.answer-is, c.heed.ensures.down, w.self-is) (record { shown = _; shows = refl; left = _; met = w.call-answer.ensures; leaves = refl })
  | in-Some w ↦ simp (sym w.in-Some.ensures.turn, c.heed.ensures.same, w.answer-is, c.heed.ensures.down, w.self-is) (w.answer-answer.ensures.pair, w.answer-answer.ensures.below)
]
