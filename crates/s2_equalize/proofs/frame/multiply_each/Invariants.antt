use Rattle.std.proofs.Common.{◌≡◌, ◌-◌, ℕ, ◌<◌, ◌≤◌}
use Rattle.s2_mode.specs.Symbols.{symbol_at}
use Rattle.s2_equalize.specs.Complex.{complex}
use Rattle.s2_equalize.specs.Equalizer.{multiplied}
use Rattle.s2_equalize.proofs.frame.multiply_each.Given as goal

abbrev pub invariant-loop-k : goal.invariant-loop-k
invariant-loop-k l = record {
  before : (j : ℕ) → j < l.at → symbol_at l.out j ≡ symbol_at l.initial.out j;
  here : (j : ℕ) → l.at ≤ j → j < l.k → symbol_at l.out j ≡ multiplied (l.fn.factor.digits - 2) (complex l.fn.factor.re l.fn.factor.im) (symbol_at l.symbols j);
}
