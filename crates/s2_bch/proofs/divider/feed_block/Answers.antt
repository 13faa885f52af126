use Rattle.std.proofs.Common.{arith, ◌≡◌, ◌∙◌, ◌-◌, ◌*◌, ◌/◌, ◌^◌, ℕ, ap, ap₂, length}
use Rattle.std.specs.Prelude.{bit_xor}
use Rattle.s2_bits.specs.Bits.{number_of}
use Rattle.s2_bch.specs.Division.{steps}
use Rattle.s2_bch.specs.Registers.{value_of}
use Rattle.s2_bch.proofs.RegisterFacts.{block_step}
use Rattle.s2_bch.proofs.divider.feed_block.Goals as goal

pub returns : goal.returns
returns c t h =
    let low : ℕ = number_of t * 2 ^ (192 - length t) in
    let v : ℕ = value_of c.args.register in
    let top : c.args.register.high ≡ v / 2 ^ 128 = omega arith in
    c.plus.ensures
    ∙ ap₂ bit_xor c.up_a_block.ensures
    (c.carried_by_block.ensures t h ∙ ap (λ x. steps 192 low 64 (bit_xor x c.args.block * 2 ^ 128)) top)
    ∙ block_step low v c.args.block (omega arith)
