use Rattle.std.proofs.Common.{◌≡◌, length, arith}
use Rattle.s2_plframe.proofs.TurnFacts.{map_by_all}
use Rattle.s2_plframe.proofs.receive.turns.rotate_back.Goals as goal

pub returns : goal.returns
returns c =
    let count : length c.loop-k.symbols ≡ length c.args.symbols.now = omega arith in
    map_by_all c.args.turn c.args.symbols.now c.loop-k.symbols c.requires count (λ j lt. c.loop-k.invariant.0 j (omega arith))
