use Rattle.std.proofs.Common.{◌≡◌}
use Rattle.s2_field.specs.Inverse.{norm}
use Rattle.s2_field.proofs.gf16.arithmetic.invert.Given as goal

abbrev pub invariant-loop : goal.invariant-loop
invariant-loop l = l.power ≡ norm 16 45 l.counter l.a
