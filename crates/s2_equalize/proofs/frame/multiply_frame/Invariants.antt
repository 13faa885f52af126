use Rattle.std.proofs.Common.{◌≡◌, ◌+◌, ◌*◌, ℕ, ◌<◌, length}
use Rattle.s2_mode.specs.Symbols.{symbol_at}
use Rattle.s2_equalize.specs.Equalizer.{factor_at, multiplied, stretch}
use Rattle.s2_equalize.proofs.frame.multiply_frame.Given as goal

abbrev pub invariant-loop-stretch : goal.invariant-loop-stretch
invariant-loop-stretch l = (i : ℕ) → i < 90 + 36 * l.stretch → i < length l.symbols
    → symbol_at l.out i ≡ multiplied l.fineness (factor_at l.factors (stretch i)) (symbol_at l.symbols i)
