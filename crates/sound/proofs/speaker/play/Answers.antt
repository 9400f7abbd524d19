use Rattle.std.proofs.Common.{◌≡◌, ◌∙◌, ap, rules}
use Rattle.std.specs.List.{fold}
use Rattle.sound.proofs.Totals.{add_pair, added}
use Rattle.sound.proofs.speaker.play.Goals as goal

pub returns : goal.returns
returns c =
    let folded : c.fold.result ≡ fold (add_pair c.args.level) c.args.from c.as_chunks.result.0.now = search rules in
    folded ∙ (ap (fold (add_pair c.args.level) c.args.from) c.as_chunks.ensures.front ∙ added c.args.level c.args.from c.args.payload.now)
