use Rattle.s2_check.proofs.MovesBack.{moves_back}
use Rattle.s2_check.proofs.laws.moves_back.Goals as goal

pub returns : goal.returns
returns c = moves_back
