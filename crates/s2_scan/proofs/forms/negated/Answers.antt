use Rattle.std.proofs.Common.{◌<◌, ◌^◌, arith}
use Rattle.s2_scan.proofs.UndoLemmas.{not_digit}
use Rattle.s2_scan.proofs.forms.negated.Goals as goal

pub returns : goal.returns
returns c = λ j lt.
    let small : c.args.register < 2 ^ 128 = omega (arith, c.ranges.register.fits) in
    not_digit c.args.register j small lt
