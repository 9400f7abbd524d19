-- One turn keeps its own item or leaves it out; the turns go over the first n items, or over all where there are fewer.
use Rattle.std.proofs.Common.{◌<◌, not, length, sym, ap, ◌∙◌, arith}
use Rattle.std.proofs.lemmas.List.{get_or_default, take_min}
use Rattle.std.proofs.lemmas.List.Filters.{FiltersInPlace-more_no, FiltersInPlace-more_set}
use Rattle.entries.specs.Items.{blank}
use Rattle.entries.proofs.slices.drop_same.Goals as goal
use Rattle.entries.proofs.slices.drop_same.Goals.{then-not-is_same, else-not-is_same}

pub loop-i-preserved : goal.loop-i-preserved
loop-i-preserved g c =
    let is = c.loop-i.items in
    let within : c.loop-i.i < length is = omega arith in
    let here = get_or_default is c.loop-i.i blank _ within in
    elim c.if-not-is_same.branch [
      | then-not-is_same w ↦ rw (w.items-is, w.left-is) (FiltersInPlace-more_set c.loop-i.invariant within (ap not (sym c.is_same.ensures ∙ w.if-not-is_same.true)) here)
      | else-not-is_same w ↦ rw (w.items-is, w.left-is) (FiltersInPlace-more_no c.loop-i.invariant within (ap not (sym c.is_same.ensures ∙ w.if-not-is_same.false)) here)
    ]

pub returns-clause-after : goal.returns-clause-after
returns-clause-after g c = grind (arith, take_min, c.loop-i.invariant.front)
