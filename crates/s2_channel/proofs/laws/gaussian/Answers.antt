use Rattle.s2_channel.proofs.Amplitudes.{variance}
use Rattle.s2_channel.proofs.laws.gaussian.Goals as goal

pub returns : goal.returns
returns c = record { variance = variance }
