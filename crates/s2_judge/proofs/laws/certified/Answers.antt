use Rattle.s2_judge.proofs.DecidingLemmas.{certified_lem}
use Rattle.s2_judge.proofs.laws.certified.Goals as goal

pub returns : goal.returns
returns c = certified_lem
