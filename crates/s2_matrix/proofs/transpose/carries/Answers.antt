use Rattle.std.proofs.Common.{◌≡◌, ℕ, ◌+◌, Bool, List, [], ◌∷◌, ◌++◌, refl, sym, ap, ◌∙◌, arith}
use Rattle.s2_bits.specs.Bits.{bit_at, number}
use Rattle.s2_bits.proofs.Sums.{xor_none, xor_code}
use lib.Lanes.{pick_l}
use Rattle.s2_matrix.specs.declared.transpose.TheConstants.{EACH}
use Rattle.s2_bits.proofs.Bytes.{byte_of_bit}
use Rattle.s2_matrix.proofs.Blocks.{carry_more}
use Rattle.s2_matrix.proofs.transpose.carries.Goals as goal

-- each lane eight times
abbrev each : List ℕ → List ℕ
each v = pick_l 0 (v ++ v) EACH

pub returns : goal.returns
returns c =
    let sums = c.args.sums.now in
    let at = c.args.at in
    let first = c.args.first in
    let g : ℕ → Bool = λ i. bit_at sums (at + i) in
    let none : at ≡ at + 0 = omega arith in
    let a = sym (xor_none first) in
    let b = xor_code first (bit_at sums at) ∙ carry_more first first (bit_at sums at) g 0 a (ap (bit_at sums) none) in
    let d = xor_code _ (g 1) ∙ carry_more first _ (g 1) g 1 b refl in
    let e = xor_code _ (g 2) ∙ carry_more first _ (g 2) g 2 d refl in
    let f = xor_code _ (g 3) ∙ carry_more first _ (g 3) g 3 e refl in
    let h = xor_code _ (g 4) ∙ carry_more first _ (g 4) g 4 f refl in
    let i = xor_code _ (g 5) ∙ carry_more first _ (g 5) g 5 h refl in
    let j = xor_code _ (g 6) ∙ carry_more first _ (g 6) g 6 i refl in
    let first_is = c.from.ensures ∙ byte_of_bit _ ∙ ap number a in
    let second_is = c.from-2.ensures ∙ byte_of_bit _ ∙ ap number b in
    let third_is = c.from-3.ensures ∙ byte_of_bit _ ∙ ap number d in
    let fourth_is = c.from-4.ensures ∙ byte_of_bit _ ∙ ap number e in
    let fifth_is = c.from-5.ensures ∙ byte_of_bit _ ∙ ap number f in
    let sixth_is = c.from-6.ensures ∙ byte_of_bit _ ∙ ap number h in
    let seventh_is = c.from-7.ensures ∙ byte_of_bit _ ∙ ap number i in
    let eighth_is = c.from-8.ensures ∙ byte_of_bit _ ∙ ap number j in
    ap each (λ t. first_is t ∷ second_is t ∷ third_is t ∷ fourth_is t ∷ fifth_is t ∷ sixth_is t ∷ seventh_is t ∷ eighth_is t ∷ [])
