-- What words of 16 bits say of the whole numbers that they stand for.
use Rattle.std.proofs.Common.{◌≡◌, ℕ, ◌+◌, ◌-◌, ◌*◌, ◌/◌, ◌%◌, ◌<◌, ◌≤◌, max, Bool, true, false, cond, ℤ, pos, neg_ℤ, ◌+ℤ◌, ◌-ℤ◌, unsigned_abs, refl, ap, ◌∙◌, arith}
use Rattle.std.proofs.lemmas.Int.{ints, int_rem_euclid_is}
use Rattle.s2_bits.specs.Lanes16.{minus16, plus16}
use Rattle.s2_settle.specs.Rests.{freed16, further16}
use Rattle.s2_settle.specs.Plain.{word, freed, further}

-- the word of a number that is so many times 2^16 lower
pub word_at : (z : ℤ) (k m : ℕ) → z +ℤ pos 32768 +ℤ pos (k * 65536) ≡ pos m → word z ≡ m % 65536
word_at z k m e =
    ap unsigned_abs (int_rem_euclid_is (z +ℤ pos 32768) (pos 65536) 65536 k m (omega arith) refl e)

abbrev turns : ℤ → ℕ
turns z = unsigned_abs z + 4

abbrev high : ℤ → ℕ
high z = unsigned_abs (z +ℤ pos 32768 +ℤ pos (turns z * 65536))

high_is : (z : ℤ) → z +ℤ pos 32768 +ℤ pos (turns z * 65536) ≡ pos (high z)
high_is z = omega (arith, ints)

word_is : (z : ℤ) → word z ≡ high z % 65536
word_is z = word_at z (turns z) (high z) (high_is z)

pub word_fits : (z : ℤ) → word z < 65536
word_fits z = omega (arith, word_is z)

-- by how much a move raises a member: by the amount where it is the target
abbrev pub signed : Bool → ℕ → ℤ
signed here amount = cond here (pos amount) (neg_ℤ (pos amount))

-- a rest once a move is taken back
pub given_is : (A amount : ℕ) (z : ℤ) (here : Bool) → A ≡ word z → amount ≤ 65535
    → cond here (minus16 A amount) (plus16 A amount) ≡ word (z -ℤ signed here amount)
given_is A amount z true is few =
    let one = word_is z in
    let top = high_is z in
    let m = high z - amount in
    let two = word_at (z -ℤ pos amount) (turns z) m (omega (arith, ints, top, few)) in
    let far : 98304 ≤ high z = omega (arith, ints, top) in
    omega (arith, is, one, two, far, few)
given_is A amount z false is few =
    let one = word_is z in
    let top = high_is z in
    let two = word_at (z -ℤ neg_ℤ (pos amount)) (turns z) (high z + amount) (omega (arith, ints, top)) in
    omega (arith, is, one, two)

-- what a change of moves adds to a rest
pub change_adds : (A : ℕ) (z : ℤ) (now old : Bool) (new was : ℕ) → A ≡ word z → new ≤ 65535 → was ≤ 65535
    → plus16 A (minus16 (cond now new (minus16 0 new)) (cond old was (minus16 0 was))) ≡ word (z +ℤ (signed now new -ℤ signed old was))
change_adds A z true true new was is few few' =
    let top = high_is z in
    let far : 98304 ≤ high z = omega (arith, ints, top) in
    let two = word_at (z +ℤ (pos new -ℤ pos was)) (turns z) (high z + new - was) (omega (arith, ints, top, far, few')) in
    omega (arith, is, word_is z, two, far, few, few')
change_adds A z true false new was is few few' =
    let top = high_is z in
    let two = word_at (z +ℤ (pos new -ℤ neg_ℤ (pos was))) (turns z) (high z + new + was) (omega (arith, ints, top)) in
    omega (arith, is, word_is z, two, few, few')
change_adds A z false true new was is few few' =
    let top = high_is z in
    let far : 196608 ≤ high z = omega (arith, ints, top) in
    let two = word_at (z +ℤ (neg_ℤ (pos new) -ℤ pos was)) (turns z) (high z - new - was) (omega (arith, ints, top, far, few, few')) in
    omega (arith, is, word_is z, two, far, few, few')
change_adds A z false false new was is few few' =
    let top = high_is z in
    let far : 98304 ≤ high z = omega (arith, ints, top) in
    let two = word_at (z +ℤ (neg_ℤ (pos new) -ℤ neg_ℤ (pos was))) (turns z) (high z + was - new) (omega (arith, ints, top, far, few)) in
    omega (arith, is, word_is z, two, far, few, few')

-- what three inputs leave free
pub freed_is : (margin a b c : ℕ) → margin ≤ 65535 → a ≤ b → b ≤ c → c ≤ 65535 → freed16 margin a b c ≡ freed margin a b c
freed_is margin a b c few le le' low =
    let one : minus16 b a ≡ b - a = omega arith in
    let two : minus16 c b ≡ c - b = omega arith in
    let reserve : (max margin (c - b) + (65536 - (c - b))) % 65536 ≡ margin - (c - b) = omega arith in
    let r = (margin - (c - b)) / 2 in
    let free : (max (b - a) r + (65536 - r)) % 65536 ≡ b - a - r = omega arith in
    (λ i. (max (one i) ((max margin (two i) + (65536 - two i)) % 65536 / 2) + (65536 - (max margin (two i) + (65536 - two i)) % 65536 / 2)) % 65536 / 2)
    ∙ ap (λ x. (max (b - a) (x / 2) + (65536 - x / 2)) % 65536 / 2) reserve
    ∙ ap (λ x. x / 2) free

-- how far an amount goes
pub further_is : (old amount : ℕ) → old ≤ 49150 → amount ≤ 32767 → further16 old amount ≡ further old amount
further_is old amount few few' =
    let up : (max amount old + (65536 - old)) % 65536 ≡ amount - old = omega arith in
    let down : (max old amount + (65536 - amount)) % 65536 ≡ old - amount = omega arith in
    let u = (amount - old) / 2 in
    let d = (old - amount + 1) / 2 in
    let one : (amount + u) % 65536 ≡ amount + u = omega arith in
    let two : (old - amount + 1) % 65536 ≡ old - amount + 1 = omega arith in
    let all : (max (amount + u) d + (65536 - d)) % 65536 ≡ amount + u - d = omega arith in
    (λ i. (max ((amount + up i / 2) % 65536) ((down i + 1) % 65536 / 2) + (65536 - (down i + 1) % 65536 / 2)) % 65536)
    ∙ (λ i. (max (one i) (two i / 2) + (65536 - two i / 2)) % 65536)
    ∙ all

pub further_most : (old amount : ℕ) → amount ≤ 32767 → further old amount ≤ 49150
further_most old amount few = omega arith

pub further_none : (old : ℕ) → further old 0 ≡ 0
further_none old = omega arith
