use Rattle.s2_plframe.proofs.HeaderFacts.{behind_the_same}
use Rattle.s2_plframe.proofs.laws.behind.Goals as goal

pub returns : goal.returns
returns c = behind_the_same
