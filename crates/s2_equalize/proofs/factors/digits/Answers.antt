use Rattle.std.proofs.Common.{◌≤◌, ◌^◌, arith}
use Rattle.std.proofs.lemmas.Int.{ints}
use Rattle.s2_equalize.proofs.Digits.{digits_most}
use Rattle.s2_equalize.proofs.factors.digits.Goals as goal

pub returns-clause-most : goal.returns-clause-most
returns-clause-most c =
    let larger = c.max.ensures in
    let re = c.requires.re in
    let im = c.requires.im in
    let small : c.max.result ≤ 2 ^ 22 = omega (arith, ints, larger, c.unsigned_abs.ensures.value, c.unsigned_abs-2.ensures.value, re, im) in
    digits_most c.max.result small
