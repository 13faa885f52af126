use Rattle.std.proofs.Common.{◌≡◌, ◌*◌, ℕ, ◌<◌}
use Rattle.s2_mode.specs.Symbols.{symbol_at}
use Rattle.s2_scramble.specs.Gold.{quarter_turns}
use Rattle.s2_scramble.specs.Rotations.{rotated_back}
use Rattle.s2_plframe.specs.Inside.{place_behind}
use Rattle.s2_plframe.proofs.receive.payload.read_slots.Given as goal

abbrev pub invariant-loop-block : goal.invariant-loop-block
invariant-loop-block l = (s : ℕ) → s < 1440 * l.block → symbol_at l.out s ≡ rotated_back (quarter_turns l.gold (place_behind l.blocks s)) (symbol_at l.slots (place_behind l.blocks s))
