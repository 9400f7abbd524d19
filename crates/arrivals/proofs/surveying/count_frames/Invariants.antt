use Rattle.arrivals.specs.Runs.{frames_left}
use Rattle.arrivals.proofs.Counting.{SoFar}
use Rattle.arrivals.proofs.surveying.count_frames.Given as goal

abbrev pub invariant-loop-frame : goal.invariant-loop-frame
invariant-loop-frame l = SoFar l.bytes (frames_left l.frame-iterator) l.seen
