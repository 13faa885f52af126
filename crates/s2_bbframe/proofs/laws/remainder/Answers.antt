use Rattle.s2_bbframe.proofs.Division.{divided}
use Rattle.s2_bbframe.proofs.laws.remainder.Goals as goal

pub returns : goal.returns
returns c = divided
