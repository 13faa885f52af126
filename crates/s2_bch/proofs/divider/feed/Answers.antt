use Rattle.std.proofs.Common.{arith, ◌≡◌, ◌∙◌, ◌-◌, ◌*◌, ◌/◌, ◌^◌, ◌<◌, ℕ, sym, ap, ap₂, subst, length, get_or, ◌+◌}
use Rattle.std.specs.Prelude.{bit_xor}
use Rattle.std.proofs.lemmas.Nat.{xor_lt}
use Rattle.s2_bits.specs.Bits.{number_of}
use Rattle.s2_bch.specs.Division.{steps}
use Rattle.s2_bch.specs.Registers.{value_of, empty}
use Rattle.s2_bch.proofs.RegisterFacts.{byte_step}
use Rattle.s2_bch.proofs.divider.feed.Goals as goal

pub returns : goal.returns
returns c t h =
    let low : ℕ = number_of t * 2 ^ (192 - length t) in
    let v : ℕ = value_of c.args.register in
    let top : v / 2 ^ 184 ≡ c.args.register.high / 2 ^ 56 = omega arith in
    let at : c.from.result ≡ bit_xor (v / 2 ^ 184) c.args.byte = c.from.ensures ∙ ap (λ x. bit_xor x c.args.byte) (sym top) in
    let within : c.from.result < 256 = subst (λ x. x < 256) (sym c.from.ensures) (xor_lt 8 (c.args.register.high / 2 ^ 56) c.args.byte (omega arith) (omega arith)) in
    let first : c.from.result ≡ 256 * 0 + c.from.result = omega arith in
    c.plus.ensures
    ∙ ap₂ bit_xor c.up_a_byte.ensures (ap (λ n. value_of (get_or c.args.table.now n empty)) first ∙ h.entries 0 c.from.result (omega arith) within ∙ ap (λ x. steps 192 low 8 (x * 2 ^ 184)) at)
    ∙ byte_step low v c.args.byte (omega arith)
