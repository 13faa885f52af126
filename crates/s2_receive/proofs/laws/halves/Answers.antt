use Rattle.s2_receive.proofs.HalfLemmas.{halves}
use Rattle.s2_receive.proofs.laws.halves.Goals as goal

pub returns : goal.returns
returns c = halves
