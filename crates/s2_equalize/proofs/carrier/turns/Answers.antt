use Rattle.std.proofs.Common.{◌≡◌, ℕ, zero, suc, ◌*◌, ◌<◌, ◌^◌, ap, ◌∙◌, refl, arith}
use Rattle.std.proofs.lemmas.Int.{ints}
use Rattle.s2_equalize.specs.declared.complex.Complex.{Complex}
use Rattle.s2_equalize.specs.Complex.{IsWithin, over, times}
use Rattle.s2_equalize.specs.Gains.{no_turn, turns}
use Rattle.s2_equalize.proofs.Sizes.{within_more}
use Rattle.s2_equalize.proofs.carrier.turns.Goals as goal

one_of_five : (P : ℕ → Type 0) → P 0 → P 1 → P 2 → P 3 → P 4 → (n : ℕ) → n < 5 → P n
one_of_five P a b c d e zero lt = a
one_of_five P a b c d e (suc zero) lt = b
one_of_five P a b c d e (suc (suc zero)) lt = c
one_of_five P a b c d e (suc (suc (suc zero))) lt = d
one_of_five P a b c d e (suc (suc (suc (suc zero)))) lt = e
one_of_five P a b c d e (suc (suc (suc (suc (suc n))))) lt = absurd (omega arith)

no_turn_within : IsWithin 32768 no_turn
no_turn_within = record { re = omega (arith, ints); im = omega (arith, ints) }

none_is : (c : Complex) → no_turn ≡ turns c 0
unfolding turns
none_is c = refl

next_is : (c a : Complex) (n : ℕ) → a ≡ turns c n → over 32768 (times a c) ≡ turns c (suc n)
unfolding turns
next_is c a n e = ap (λ (x : Complex). over 32768 (times x c)) e

pub turned_once-two-requires-clause-a : goal.turned_once-two-requires-clause-a
turned_once-two-requires-clause-a c = within_more (2 * 32768) (2 ^ 22) c.turned_once-one.result (omega arith) (c.turned_once-one.ensures.most 32768 no_turn_within)

pub turned_once-three-requires-clause-a : goal.turned_once-three-requires-clause-a
turned_once-three-requires-clause-a c =
    let one = c.turned_once-one.ensures.most 32768 no_turn_within in
    within_more (2 * (2 * 32768)) (2 ^ 22) c.turned_once-two.result (omega arith) (c.turned_once-two.ensures.most (2 * 32768) one)

pub turned_once-four-requires-clause-a : goal.turned_once-four-requires-clause-a
turned_once-four-requires-clause-a c =
    let one = c.turned_once-one.ensures.most 32768 no_turn_within in
    let two = c.turned_once-two.ensures.most (2 * 32768) one in
    within_more (2 * (2 * (2 * 32768))) (2 ^ 22) c.turned_once-three.result (omega arith) (c.turned_once-three.ensures.most (2 * (2 * 32768)) two)

pub returns-clause-are : goal.returns-clause-are
returns-clause-are c =
    let turn = c.args.turn in
    let one = c.turned_once-one.result in
    let two = c.turned_once-two.result in
    let three = c.turned_once-three.result in
    let one_is = c.turned_once-one.ensures.is ∙ next_is turn no_turn 0 (none_is turn) in
    let two_is = c.turned_once-two.ensures.is ∙ next_is turn one 1 one_is in
    let three_is = c.turned_once-three.ensures.is ∙ next_is turn two 2 two_is in
    let four_is = c.turned_once-four.ensures.is ∙ next_is turn three 3 three_is in
    one_of_five _ (none_is turn) one_is two_is three_is four_is

pub returns-clause-most : goal.returns-clause-most
returns-clause-most c =
    let one = c.turned_once-one.result in
    let two = c.turned_once-two.result in
    let three = c.turned_once-three.result in
    let four = c.turned_once-four.result in
    let one_most = c.turned_once-one.ensures.most 32768 no_turn_within in
    let two_most = c.turned_once-two.ensures.most (2 * 32768) one_most in
    let three_most = c.turned_once-three.ensures.most (2 * (2 * 32768)) two_most in
    let four_most = c.turned_once-four.ensures.most (2 * (2 * (2 * 32768))) three_most in
    one_of_five _ (within_more 32768 (2 ^ 19) no_turn (omega arith) no_turn_within)
    (within_more (2 * 32768) (2 ^ 19) one (omega arith) one_most)
    (within_more (2 * (2 * 32768)) (2 ^ 19) two (omega arith) two_most)
    (within_more (2 * (2 * (2 * 32768))) (2 ^ 19) three (omega arith) three_most)
    (within_more (2 * (2 * (2 * (2 * 32768)))) (2 ^ 19) four (omega arith) four_most)
