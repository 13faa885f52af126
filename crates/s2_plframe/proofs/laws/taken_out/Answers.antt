use Rattle.s2_plframe.proofs.HeaderFacts.{taken_out_is}
use Rattle.s2_plframe.proofs.laws.taken_out.Goals as goal

pub returns : goal.returns
returns c = taken_out_is
