use Rattle.std.proofs.Common.{◌≡◌, ℕ, ◌<◌}
use Rattle.s2_mode.specs.Symbols.{symbol_at}
use Rattle.s2_scramble.specs.Rotations.{rotated_back}
use Rattle.s2_plframe.proofs.receive.turns.rotate_back_into.Given as goal

abbrev pub invariant-loop-k : goal.invariant-loop-k
invariant-loop-k l = (j : ℕ) → j < l.k → symbol_at l.out j ≡ rotated_back l.turn (symbol_at l.symbols j)
