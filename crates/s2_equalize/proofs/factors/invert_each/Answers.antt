use Rattle.std.proofs.Common.{◌≡◌, length, arith}
use Rattle.s2_equalize.specs.Equalizer.{reciprocal}
use Rattle.s2_equalize.proofs.Lists.{map_by_all}
use Rattle.s2_equalize.proofs.factors.invert_each.Goals as goal

pub returns-clause-is : goal.returns-clause-is
returns-clause-is c =
    let long : length c.loop-k.gains ≡ length c.args.gains.now = omega arith in
    map_by_all (reciprocal c.args.fineness) c.args.gains.now c.loop-k.gains long (λ k lt. c.loop-k.invariant.done k (omega arith))
