use Rattle.std.proofs.Common.{◌≡◌, ℕ, ◌-◌, ◌<◌}
use Rattle.s2_mode.specs.Symbols.{symbol_at}
use Rattle.s2_plframe.specs.Search.{decision}
use Rattle.s2_plframe.specs.Inside.{held}
use Rattle.s2_message.proofs.header.header_signs.Given as goal

abbrev pub invariant-loop-k : goal.invariant-loop-k
invariant-loop-k l = (j : ℕ) → j < l.k → held l.signs.odd l.signs.even (l.k - 1 - j) ≡ decision (symbol_at l.symbols j)
