use Rattle.arrivals.specs.Runs.{frames_of, frames_left}
use Rattle.burst.proofs.Auditing.{SoFar}
use Rattle.burst.proofs.audit.count_stored.Given as goal

abbrev pub invariant-loop-frame : goal.invariant-loop-frame
invariant-loop-frame g l = SoFar g.S.Shelf.looks l.initial.shelf (frames_of l.arrivals) l.shelf l.first (frames_left l.frame-iterator) l.found
