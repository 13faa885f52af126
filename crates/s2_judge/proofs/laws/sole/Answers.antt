use Rattle.s2_judge.proofs.DecidingLemmas.{sole_lem}
use Rattle.s2_judge.proofs.laws.sole.Goals as goal

pub returns : goal.returns
returns c = sole_lem
