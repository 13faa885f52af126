use Rattle.std.proofs.Common.{◌≡◌, ℕ, ◌*◌, ◌<◌}
use Rattle.s2_soft.specs.Soft.{quantized, value_at}
use Rattle.s2_soft.specs.Closed.{component_difference}
use Rattle.s2_soft.specs.Lanes.{component_at}
use Rattle.s2_soft.proofs.soft.qpsk_into.Given as goal

abbrev pub invariant-loop-s : goal.invariant-loop-s
invariant-loop-s l = (b : ℕ) → b < 2 * l.s → value_at l.soft b ≡ quantized l.divisor (component_difference (component_at l.payload b))
