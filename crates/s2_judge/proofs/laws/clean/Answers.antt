use Rattle.s2_judge.proofs.DecidingLemmas.{clean_lem}
use Rattle.s2_judge.proofs.laws.clean.Goals as goal

pub returns : goal.returns
returns c = clean_lem
