use Rattle.std.proofs.Common.{◌≡◌, ◌-◌}
use Rattle.std.specs.Prelude.{bit_xor}
use Rattle.s2_field.specs.Binary.{act, times}
use Rattle.s2_field.proofs.gf16.arithmetic.multiply.Given as goal

abbrev pub invariant-loop : goal.invariant-loop
invariant-loop l = bit_xor l.product (act 16 45 (16 - l.counter) l.rest l.shifted) ≡ times 16 45 l.fn.a l.fn.b
