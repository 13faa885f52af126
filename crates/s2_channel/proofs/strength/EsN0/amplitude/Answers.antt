use Rattle.std.proofs.Common.{arith}
use Rattle.s2_channel.proofs.Amplitudes.{within}
use Rattle.s2_channel.proofs.strength.EsN0.amplitude.Goals as goal

pub returns-clause-most : goal.returns-clause-most
returns-clause-most c = omega (arith, within c.self.inside.above, c.self.invariant.1)
