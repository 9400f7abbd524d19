use Rattle.basis.proofs.Keeps.{law}
use Rattle.basis.proofs.Stays.{stay}
use Rattle.basis.proofs.steps_keep_rules.Goals as goal

pub returns : goal.returns
returns c = λ u b s k r t o p. (law u b s k r t o p, stay u b s k r t o p)
