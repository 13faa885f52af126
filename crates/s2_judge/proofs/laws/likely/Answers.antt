use Rattle.s2_judge.proofs.DecidingLemmas.{likely_lem}
use Rattle.s2_judge.proofs.laws.likely.Goals as goal

pub returns : goal.returns
returns c = likely_lem
