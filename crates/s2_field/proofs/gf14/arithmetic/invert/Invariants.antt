use Rattle.std.proofs.Common.{◌≡◌, ◌<◌, ◌^◌}
use Rattle.s2_field.specs.Inverse.{norm}
use Rattle.s2_field.proofs.gf14.arithmetic.invert.Given as goal

abbrev pub invariant-loop : goal.invariant-loop
invariant-loop l = record { value : l.power ≡ norm 14 43 l.counter l.a; below : l.power < 2 ^ 14 }
