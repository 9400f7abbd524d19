-- The item in the place is marked, and no entry changes.
use Rattle.std.proofs.Common.{◌≡◌, ap, ◌∙◌, arith}
use Rattle.std.proofs.lemmas.Grind.{common_steps}
use Rattle.entry_log.specs.Items.{entries_of, hand_at}
use Rattle.entries.proofs.Handing.{entries_hand}
use Rattle.entry_log.proofs.log.Log.hand.Goals as goal

pub returns-clause-same : goal.returns-clause-same
returns-clause-same g c =
    let a : c.match-get_mut.self-inside.items.items ≡ hand_at c.args.i c.args.self.now = grind (arith, common_steps) in
    ap entries_of a ∙ entries_hand c.args.i c.args.self.now
