use Rattle.s2_judge.proofs.DecidingLemmas.{broken_lem}
use Rattle.s2_judge.proofs.laws.broken.Goals as goal

pub returns : goal.returns
returns c = broken_lem
