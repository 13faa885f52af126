use Rattle.std.proofs.Common.{◌≡◌, ◌*◌, ℕ, ◌<◌}
use Rattle.s2_mode.specs.Symbols.{symbol_at}
use Rattle.s2_scramble.specs.Gold.{quarter_turns}
use Rattle.s2_scramble.specs.Rotations.{rotated}
use Rattle.s2_plframe.specs.Dummy.{carrier}
use Rattle.s2_plframe.proofs.send.dummy.write_carrier.Given as goal

abbrev pub invariant-loop-block : goal.invariant-loop-block
invariant-loop-block l = (u : ℕ) → u < 90 * l.block → symbol_at l.out u ≡ rotated (quarter_turns l.gold u) carrier
