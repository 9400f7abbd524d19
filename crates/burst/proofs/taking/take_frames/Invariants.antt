-- What the frames up to here have left.
use Rattle.std.proofs.Common.{◌≡◌, length}
use Rattle.burst.specs.Bursts.{Left}
use Rattle.burst.proofs.taking.take_frames.Given as goal

abbrev pub invariant-loop-number : goal.invariant-loop-number
invariant-loop-number g l =
    let d = g.B.Driver in
    (length l.buffer ≡ 1514)
    × (g.N.Driver.ok l.initial.intake.wire → g.N.Driver.ok l.intake.wire)
    × (d.ok l.initial.intake.store.driver → d.ok l.intake.store.driver)
    × (g.S.Driver.ok l.initial.intake.speaker → g.S.Driver.ok l.intake.speaker)
    × (d.ok l.initial.intake.store.driver → Left (d.state l.initial.intake.store.driver) l.initial.intake.store.next (d.state l.intake.store.driver) l.intake.store.next l.tally)
