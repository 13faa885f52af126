use Rattle.std.proofs.Common.{◌≡◌, ℕ, ◌*◌, ◌<◌}
use Rattle.s2_soft.specs.Soft.{quantized, value_at}
use Rattle.s2_soft.specs.Closed.{component_difference}
use Rattle.s2_soft.specs.Lanes.{component_at}
use Rattle.s2_soft.proofs.soft.qpsk_by_fours.Given as goal

abbrev pub invariant-loop-block : goal.invariant-loop-block
invariant-loop-block l = (b : ℕ) → b < 8 * l.block → value_at l.soft b ≡ quantized l.fn.divisor (component_difference (component_at l.payload b))
