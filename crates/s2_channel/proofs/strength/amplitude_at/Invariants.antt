use Rattle.std.proofs.Common.{◌≡◌, ◌≤◌}
use Rattle.s2_channel.specs.Gaussian.{amplitude_at, greatest_amplitude}
use Rattle.s2_channel.proofs.strength.amplitude_at.Given as goal

abbrev pub invariant-fall : goal.invariant-fall
invariant-fall l = record {
  amplitude : l.amplitude ≡ amplitude_at l._hundredth;
  most : l.amplitude ≤ greatest_amplitude;
}
