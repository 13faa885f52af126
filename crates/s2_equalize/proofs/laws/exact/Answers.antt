use Rattle.s2_equalize.proofs.ExactFrames.{exact}
use Rattle.s2_equalize.proofs.laws.exact.Goals as goal

pub returns : goal.returns
returns c = exact
