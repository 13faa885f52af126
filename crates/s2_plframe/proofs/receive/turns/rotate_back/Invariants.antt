use Rattle.std.proofs.Common.{◌≡◌, ℕ, ◌<◌, ◌≤◌, length}
use Rattle.s2_mode.specs.Symbols.{symbol_at}
use Rattle.s2_scramble.specs.Rotations.{rotated_back}
use Rattle.s2_plframe.proofs.receive.turns.rotate_back.Given as goal

-- the first symbols are rotated back, the others are as they were
abbrev pub invariant-loop-k : goal.invariant-loop-k
invariant-loop-k l =
    ((j : ℕ) → j < l.k → symbol_at l.symbols j ≡ rotated_back l.turn (symbol_at l.fn.symbols j))
    × ((j : ℕ) → l.k ≤ j → symbol_at l.symbols j ≡ symbol_at l.fn.symbols j)
