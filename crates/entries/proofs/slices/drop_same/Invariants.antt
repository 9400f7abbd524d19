-- The items of other names among the first i stand in front, in order.
use Rattle.std.proofs.Common.{not}
use Rattle.std.proofs.lemmas.List.Filters.{FiltersInPlace}
use Rattle.entries.proofs.slices.drop_same.Given as goal

abbrev pub invariant-loop-i : goal.invariant-loop-i
invariant-loop-i g l = FiltersInPlace (λ x. not (g.K.EntryKind.kind.same x.entry.name l.name)) l.initial.items l.items l.left l.i
