use Rattle.std.proofs.Common.{◌≡◌, ◌+◌, [], ◌∷◌, ap, ◌∙◌, arith}
use Rattle.s2_bits.specs.Bits.{bit_at, number}
use Rattle.s2_bits.proofs.Bytes.{byte_of_bit}
use Rattle.s2_bits.proofs.lanes.eight_from.Goals as goal

pub returns : goal.returns
returns c =
    let bits = c.args.bits.now in
    let at = c.args.at in
    let none : at ≡ at + 0 = omega arith in
    let first = c.from.ensures ∙ byte_of_bit (bit_at bits at) ∙ ap (λ k. number (bit_at bits k)) none in
    let second = c.from-2.ensures ∙ byte_of_bit (bit_at bits (at + 1)) in
    let third = c.from-3.ensures ∙ byte_of_bit (bit_at bits (at + 2)) in
    let fourth = c.from-4.ensures ∙ byte_of_bit (bit_at bits (at + 3)) in
    let fifth = c.from-5.ensures ∙ byte_of_bit (bit_at bits (at + 4)) in
    let sixth = c.from-6.ensures ∙ byte_of_bit (bit_at bits (at + 5)) in
    let seventh = c.from-7.ensures ∙ byte_of_bit (bit_at bits (at + 6)) in
    let eighth = c.from-8.ensures ∙ byte_of_bit (bit_at bits (at + 7)) in
    λ t. first t ∷ second t ∷ third t ∷ fourth t ∷ fifth t ∷ sixth t ∷ seventh t ∷ eighth t ∷ []
