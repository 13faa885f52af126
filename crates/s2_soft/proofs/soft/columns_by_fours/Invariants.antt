use Rattle.std.proofs.Common.{◌≡◌, ℕ, ◌*◌, ◌<◌}
use Rattle.s2_mode.specs.Symbols.{symbol_at}
use Rattle.s2_soft.specs.Soft.{quantized, value_at}
use Rattle.s2_soft.specs.Closed.{first_difference, second_difference, third_difference}
use Rattle.s2_soft.proofs.soft.columns_by_fours.Given as goal

abbrev pub invariant-loop-block : goal.invariant-loop-block
invariant-loop-block l = record {
  first : (k : ℕ) → k < 4 * l.block → value_at l.first k ≡ quantized l.fn.divisor (first_difference (symbol_at l.payload k).i (symbol_at l.payload k).q);
  second : (k : ℕ) → k < 4 * l.block → value_at l.second k ≡ quantized l.fn.divisor (second_difference (symbol_at l.payload k).i (symbol_at l.payload k).q);
  third : (k : ℕ) → k < 4 * l.block → value_at l.third k ≡ quantized l.fn.divisor (third_difference (symbol_at l.payload k).i (symbol_at l.payload k).q);
}
