-- The first item that `position` finds is the first of the name.
use Rattle.std.proofs.Common.{rules, ◌∙◌}
use Rattle.std.proofs.lemmas.Iterator.{YieldsList-from_slice}
use Rattle.std.proofs.lemmas.Iterator.Search.{position_from_yields_List}
use Rattle.entries.specs.declared.item.Item.{Item}
use Rattle.entries.proofs.Searches.{place_position}
use Rattle.entries.proofs.slices.find.Goals as goal
use borrow.Author.Tests.{tests}

pub returns : goal.returns
returns g c =
    position_from_yields_List (λ (x : Item). g.K.EntryKind.kind.same x.entry.name c.args.name) _ _ _ c.position.ensures.ran (YieldsList-from_slice c.args.items.now c.iter.ensures.rest) (λ x b q k. search (rules, tests))
    ∙ place_position g.K.EntryKind.kind c.args.name c.args.items.now
