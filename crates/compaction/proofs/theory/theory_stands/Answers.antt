-- Each theorem by its lemma.
use Rattle.compaction.proofs.Compacting.{updates, settles}
use Rattle.compaction.proofs.Replaying.{replays}
use Rattle.compaction.proofs.Standing.{stands_once, no_default}
use Rattle.compaction.proofs.Counting.{counts_names, counts}
use Rattle.compaction.proofs.theory.theory_stands.Goals as goal

pub returns : goal.returns
returns c = record {
  replays = replays;
  updates = updates;
  settles = settles;
  stands_once = stands_once;
  no_default = no_default;
  counts_names = counts_names;
  counts = counts;
}
