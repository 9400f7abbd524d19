use Rattle.std.proofs.Common.{arith}
use Rattle.arrivals.proofs.Counting.{room}
use Rattle.arrivals.proofs.surveying.count_frames.Goals as goal

pub overflow_add-seen : goal.overflow_add-seen
overflow_add-seen c = omega (arith, (room _ _ _ _ _ c.loop-frame.invariant c.in-Some.ensures.steps (omega arith)).frames)

pub overflow_add-seen-in-loop-frame : goal.overflow_add-seen-in-loop-frame
overflow_add-seen-in-loop-frame c =
    let r = room _ _ _ _ _ c.loop-frame.invariant c.in-Some.ensures.steps (omega arith) in
    grind (arith, r.groups, c.from.ensures, c.is_group.ensures)

pub overflow_add-seen-in-loop-frame-3 : goal.overflow_add-seen-in-loop-frame-3
overflow_add-seen-in-loop-frame-3 c = omega (arith, (room _ _ _ _ _ c.loop-frame.invariant c.in-Some.ensures.steps (omega arith)).used)
