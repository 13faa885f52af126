use Rattle.s2_message.proofs.Scaling.{scaling}
use Rattle.s2_modem.proofs.laws.scaling.Goals as goal

pub returns : goal.returns
returns c = scaling
