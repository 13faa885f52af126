use Rattle.std.proofs.Common.{◌≡◌, ◌-◌, ◌<◌, ◌^◌}
use Rattle.std.specs.Prelude.{bit_xor}
use Rattle.s2_field.specs.Binary.{act, times}
use Rattle.s2_field.proofs.gf14.arithmetic.multiply.Given as goal

abbrev pub invariant-loop : goal.invariant-loop
invariant-loop l = record {
  value : bit_xor l.product (act 14 43 (14 - l.counter) l.rest l.shifted) ≡ times 14 43 l.fn.a l.fn.b;
  below : l.shifted < 2 ^ 14;
}
