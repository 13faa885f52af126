use Rattle.std.proofs.Common.{◌^◌, arith}
use Rattle.s2_equalize.proofs.Digits.{shifted_most}
use Rattle.s2_equalize.proofs.Sizes.{energy_within}
use Rattle.s2_equalize.proofs.factors.divisor.Goals as goal

pub returns-clause-most : goal.returns-clause-most
returns-clause-most c =
    let power = shifted_most c.args.fineness c.requires.fineness in
    let quarter = c.max.ensures in
    let all = c.max-2.ensures in
    let is = c.energy.ensures.is in
    let small = energy_within (2 ^ 22) c.args.gain c.requires.gain in
    omega (arith, power, quarter, all, is, small)
