use Rattle.std.proofs.Common.{◌≡◌, ◌+◌, ap, arith}
use Rattle.s2_bits.specs.Bits.{bit_at, number}
use Rattle.s2_bits.proofs.spelling.byte_at.Goals as goal

pub returns : goal.returns
returns c =
    let bits = c.args.bits.now in
    let at = c.args.at in
    let none : at ≡ at + 0 = omega arith in
    let first : number (bit_at bits at) ≡ number (bit_at bits (at + 0)) = ap (λ k. number (bit_at bits k)) none in
    omega (arith, first)
