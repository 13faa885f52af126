use Rattle.std.proofs.Common.{◌≡◌, ◌+◌, ◌-◌, length, pos, arith}
use Rattle.std.proofs.lemmas.List.FromFn.{fill_by_all}
use Rattle.s2_equalize.specs.Complex.{complex}
use Rattle.s2_equalize.specs.Gains.{block_gain, gains_of}
use Rattle.s2_equalize.proofs.gains.find_gains.Goals as goal

pub returns-clause-is : goal.returns-clause-is
unfolding gains_of
returns-clause-is c =
    let long : length c.loop-k.gains ≡ length c.args.gains.now - 1 + 1 = omega arith in
    fill_by_all (block_gain c.args.received.now c.args.sent.now) c.loop-k.gains (length c.args.gains.now - 1 + 1) (complex (pos 0) (pos 0)) long
    (λ k lt. c.loop-k.invariant.done k (omega arith))
