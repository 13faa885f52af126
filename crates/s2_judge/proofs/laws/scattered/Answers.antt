use Rattle.s2_judge.proofs.Scattering.{scattered_lem}
use Rattle.s2_judge.proofs.laws.scattered.Goals as goal

pub returns : goal.returns
returns c = scattered_lem
