-- The last item of the name gives its content.
use Rattle.std.proofs.Common.{◌≡◌, rules}
use Rattle.std.specs.Option.{MatchOption}
use Rattle.std.proofs.lemmas.Iterator.Search.{find_from_yields_List}
use Rattle.entries.specs.declared.item.Item.{Item}
use Rattle.entries.proofs.Searches.{backwards, content_found}
use Rattle.entries.proofs.slices.last_content.Goals as goal
use borrow.Author.Tests.{tests}

pub returns : goal.returns
returns g c =
    let m : MatchOption c.rfind.result (c.map_or_else.result ≡ g.K.EntryKind.kind.default c.args.name) (λ x. c.map_or_else.result ≡ x.now.entry.content) = search rules in
    content_found g.K.EntryKind.kind c.args.name c.args.items.now c.rfind.result c.map_or_else.result m
    (find_from_yields_List (λ (x : Item). g.K.EntryKind.kind.same x.entry.name c.args.name) _ _ c.rfind.result c.rfind.ensures.ran (backwards c.args.items.now c.iter.ensures.rest) (λ x b q k. search (rules, tests)))
