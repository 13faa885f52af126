use Rattle.std.proofs.Common.{◌≡◌, ℕ, ◌<◌, length, map, pos, sym, ap, ◌∙◌, arith}
use Rattle.std.proofs.lemmas.List.{length-map}
use Rattle.std.proofs.Math.ListN.{get_or-map}
use Rattle.s2_mode.specs.Symbols.{symbol, symbol_at}
use Rattle.s2_scramble.specs.Rotations.{rotated_back}
use Rattle.s2_plframe.proofs.TurnFacts.{map_by_all}
use Rattle.s2_plframe.proofs.receive.turns.rotate_back_into.Goals as goal

pub returns : goal.returns
returns c =
    let count : length c.loop-k.out ≡ length c.args.symbols.now = omega arith in
    map_by_all c.args.turn c.args.symbols.now c.loop-k.out c.requires.few count (λ j lt. c.loop-k.invariant j (omega arith))
