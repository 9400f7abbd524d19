use Rattle.std.proofs.Common.{length}
use Rattle.arrivals.proofs.frames.+skip_groups.Given as goal

abbrev pub decreases-skip_groups : goal.decreases-skip_groups
decreases-skip_groups l = length l.bytes.now
