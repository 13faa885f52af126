use Rattle.std.proofs.Common.{◌≡◌, ◌*◌, ◌/◌, ◌<◌, ◌≤◌, ◌∙◌, ℕ, length, take, ap, arith, rules}
use Rattle.s2_bits.specs.Bits.{bit_at, bit_of_bytes, bits_of_bytes}
use Rattle.s2_bits.proofs.Spelled.{bit_of_all, bit_of_first, length-bits_of_bytes}
use Rattle.s2_bits.proofs.bits.Bits.from_bytes.Goals as goal

pub loop-i-init : goal.loop-i-init
loop-i-init c =
    let bytes = c.args.bytes.now in
    let w = c.args.len / 8 in
    let within : w ≤ length bytes = omega (arith, c.requires) in
    let is : c.in_ok-truths.truths.items ≡ bits_of_bytes (take w bytes) = search rules in
    bit_of_first bytes c.in_ok-truths.truths.items w within is
