use Rattle.std.proofs.Common.{◌≡◌, ℕ, ◌+◌, min, [], ◌∷◌, sym, ap, ◌∙◌}
use Rattle.arrivals.specs.Runs.{frames_of, frames_left}
use Rattle.burst.specs.Audits.{behind}
use Rattle.burst.proofs.Auditing.{SoFar, over_group, over_missing, over_found, finished}
use Rattle.burst.proofs.audit.count_stored.Goals as goal
use Rattle.burst.proofs.audit.count_stored.Goals.{else-not-is_group-via-then-not-is_group+else-has, else-not-is_group-via-else-not-is_group}

pub loop-frame-preserved-then-has : goal.loop-frame-preserved-then-has
loop-frame-preserved-then-has g c =
    let looks = g.S.Shelf.looks in
    let left = frames_left c.next.new.self in
    let so_far : SoFar looks c.args.shelf.now (frames_of c.args.arrivals.now) c.loop-frame.shelf c.loop-frame.first (c.in-Some.frame.now ∷ left) c.loop-frame.found = rw c.in-Some.ensures.steps at c.loop-frame.invariant in
    let next : c.saturating_add-first.result ≡ behind c.loop-frame.first c.in-Some.frame.now =
    c.saturating_add-first.ensures ∙ ap (λ (n : ℕ). min (c.loop-frame.first + n) 4294967295) c.blocks_for.ensures in
    rw next (over_found looks c.args.shelf.now (frames_of c.args.arrivals.now) (sym c.is_group.ensures ∙ c.if-not-is_group.true) (rw c.if-has.true at c.has.ensures) c.saturating_add-found.ensures so_far)

pub loop-frame-preserved : goal.loop-frame-preserved
loop-frame-preserved g c =
    let looks = g.S.Shelf.looks in
    let left = frames_left c.next.new.self in
    let so_far : SoFar looks c.args.shelf.now (frames_of c.args.arrivals.now) c.loop-frame.shelf c.loop-frame.first (c.in-Some.frame.now ∷ left) c.loop-frame.found = rw c.in-Some.ensures.steps at c.loop-frame.invariant in
    elim c.else-not-is_group.branch [
      | else-not-is_group-via-then-not-is_group+else-has w ↦ rw w.shelf-is (over_missing looks c.args.shelf.now (frames_of c.args.arrivals.now) (sym c.is_group.ensures ∙ w.if-not-is_group.true) (rw w.if-has.false at w.has.ensures) so_far)
      | else-not-is_group-via-else-not-is_group w ↦ rw w.shelf-is (over_group looks c.args.shelf.now (frames_of c.args.arrivals.now) (sym c.is_group.ensures ∙ w.if-not-is_group.false) so_far)
    ]

pub returns : goal.returns
returns g c =
    let none : frames_left c.loop-frame.frame-iterator ≡ [] = c.in-None.ensures.steps.0 in
    finished g.S.Shelf.looks c.args.shelf.now (frames_of c.args.arrivals.now) (rw none at c.loop-frame.invariant)
