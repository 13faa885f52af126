use Rattle.std.proofs.Common.{◌≡◌}
use Rattle.s2_field.specs.Polynomials.{pow}
use Rattle.s2_field.proofs.field.pow.Given as goal

abbrev pub invariant-loop-rest : goal.invariant-loop-rest
invariant-loop-rest g l =
    let f = g.F.Field in
    f.field.product l.power (pow f.field l.square l.rest) ≡ pow f.field l.fn.x l.fn.exponent

abbrev pub decreases-loop-rest : goal.decreases-loop-rest
decreases-loop-rest g l = l.rest
