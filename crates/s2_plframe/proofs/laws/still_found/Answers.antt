use Rattle.s2_plframe.proofs.HeaderFacts.{found_still}
use Rattle.s2_plframe.proofs.laws.still_found.Goals as goal

pub returns : goal.returns
returns c = found_still
