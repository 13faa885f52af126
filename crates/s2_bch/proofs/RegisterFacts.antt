-- The register's steps, over plain numbers.
use Rattle.std.specs.Prelude.{ℕ, zero, suc, ◌≡◌, ◌+◌, ◌-◌, ◌*◌, ◌/◌, ◌%◌, ◌^◌, ◌<◌, ◌≤◌, bit_xor, refl, Bool, true, false, List, [], ◌∷◌, length, drop, replicate}
use Rattle.std.proofs.Common.{sym, ◌∙◌, ap, ap₂, subst, arith}
use Rattle.std.proofs.Math.Nat.{pow-suc, add-mul, mul_assoc}
use Rattle.std.proofs.lemmas.Nat.{xor_block, xor_comm}
use lib.Pow.{pow-add, shl_lt}
use lib.Bits.{xor_zero_r}
use Rattle.s2_field.specs.Binary.{times_x}
use Rattle.s2_bits.specs.Bits.{added, number, number_of}
use Rattle.s2_bch.proofs.WordFacts.{length-added}
use Rattle.s2_bch.specs.Division.{steps}
use Rattle.s2_bch.proofs.DivisionFacts.{number_of-below, number_of-sum, xor-scale, steps-at_once, steps-joined}
use Rattle.s2_bch.specs.declared.register.Register.{Register}
use Rattle.s2_bch.specs.Registers.{value_of, Holds}

-- blocks of 64 bits added one by one
pub xor_blocks : (a b c d e f : ℕ) → b < 2 ^ 64 → c < 2 ^ 64 → e < 2 ^ 64 → f < 2 ^ 64
    → (bit_xor a d * 2 ^ 64 + bit_xor b e) * 2 ^ 64 + bit_xor c f ≡ bit_xor ((a * 2 ^ 64 + b) * 2 ^ 64 + c) ((d * 2 ^ 64 + e) * 2 ^ 64 + f)
xor_blocks a b c d e f hb hc he hf =
    sym (xor_block 64 (a * 2 ^ 64 + b) (d * 2 ^ 64 + e) c f hc hf
    ∙ ap (λ x. x * 2 ^ 64 + bit_xor c f) (xor_block 64 a d b e hb he))

-- a step, where the highest bit is one and where it is zero
pub step_one : (low v : ℕ) → v / 2 ^ 191 ≡ 1 → bit_xor (v * 2 % 2 ^ 192) low ≡ times_x 192 low v
step_one low v e =
    let z : 1 % 2 * low ≡ low = omega arith in
    sym (ap (λ q. bit_xor (v * 2 % 2 ^ 192) (q % 2 * low)) e ∙ ap (bit_xor (v * 2 % 2 ^ 192)) z)

pub step_zero : (low v : ℕ) → v / 2 ^ 191 ≡ 0 → v * 2 % 2 ^ 192 ≡ times_x 192 low v
step_zero low v e =
    let z : 0 % 2 * low ≡ 0 = omega arith in
    sym (ap (λ q. bit_xor (v * 2 % 2 ^ 192) (q % 2 * low)) e ∙ ap (bit_xor (v * 2 % 2 ^ 192)) z ∙ xor_zero_r (v * 2 % 2 ^ 192))

-- the number of one bit more
more_bits : (b : Bool) (w : List Bool) (k : ℕ) → length w + k ≡ 191
    → number_of (b ∷ w) * 2 ^ k ≡ number b * 2 ^ 191 + number_of w * 2 ^ k
more_bits b w k e =
    add-mul (number b * 2 ^ length w) (number_of w) (2 ^ k)
    ∙ ap (λ x. x + number_of w * 2 ^ k)
    (mul_assoc (number b) (2 ^ length w) (2 ^ k) ∙ ap (λ x. number b * x) (sym (pow-add 2 (length w) k) ∙ ap (λ n. 2 ^ n) e))

twice : (n k j : ℕ) → j ≡ suc k → n * 2 ^ j ≡ n * 2 ^ k * 2
twice n k j e = ap (λ i. n * 2 ^ i) e ∙ ap (λ x. n * x) (pow-suc 2 k) ∙ sym (mul_assoc n (2 ^ k) 2)

-- a bit put on top
pub held_below : (b : Bool) (w : List Bool) (v : ℕ) → length w < 192 → v ≡ number_of w * 2 ^ (192 - length w)
    → number b * 2 ^ 191 + v / 2 ≡ number_of (b ∷ w) * 2 ^ (192 - suc (length w))
held_below b w v h e =
    let k : ℕ = 192 - suc (length w) in
    let fits : length w + k ≡ 191 = omega arith in
    let whole : v ≡ number_of w * 2 ^ k * 2 = e ∙ twice (number_of w) k (192 - length w) (omega arith) in
    let half : v / 2 ≡ number_of w * 2 ^ k = omega arith in
    ap (λ x. number b * 2 ^ 191 + x) half ∙ sym (more_bits b w k fits)

-- the top bit taken off
module _ (b : Bool) (w : List Bool) (v : ℕ) (h : length w < 192) (e : v ≡ number_of (b ∷ w) * 2 ^ (192 - suc (length w))) where
  abbrev left : ℕ
  left = number_of w * 2 ^ (192 - suc (length w))

  split : v ≡ number b * 2 ^ 191 + left
  split = let fits : length w + (192 - suc (length w)) ≡ 191 = omega arith in e ∙ more_bits b w (192 - suc (length w)) fits

  left-below : left < 2 ^ 191
  left-below =
      let fits : length w + (192 - suc (length w)) ≡ 191 = omega arith in
      subst (λ n. left < 2 ^ n) fits (shl_lt (length w) (192 - suc (length w)) (number_of-below w))

  pub held_top : v / 2 ^ 191 ≡ number b
  held_top = let s = split in let l = left-below in omega arith

  below-two : (c : Bool) → number c ≤ 1
  below-two true = omega arith
  below-two false = omega arith

  pub held_next : v * 2 % 2 ^ 192 ≡ number_of w * 2 ^ (192 - length w)
  held_next =
      let s = split in
      let l = left-below in
      let r : v * 2 % 2 ^ 192 ≡ left * 2 = omega (arith, below-two b) in
      r ∙ sym (twice (number_of w) (192 - suc (length w)) (192 - length w) (omega arith))

-- a bit is known by its number
pub number_same : (b c : Bool) → number b ≡ number c → b ≡ c
number_same true true e = refl
number_same true false e = absurd (omega arith)
number_same false true e = absurd (omega arith)
number_same false false e = refl

-- n steps at once
at_once : (low n v top left new up : ℕ) → n ≤ 192 → v ≡ top * 2 ^ (192 - n) + left → left < 2 ^ (192 - n) → up ≡ left * 2 ^ n
    → bit_xor up (steps 192 low n (bit_xor top new * 2 ^ (192 - n))) ≡ steps 192 low n (bit_xor v (new * 2 ^ (192 - n)))
at_once low n v top left new up few whole fits moved =
    let positive : 0 < 192 = omega arith in
    xor_comm up _
    ∙ ap (bit_xor (steps 192 low n (bit_xor top new * 2 ^ (192 - n)))) moved
    ∙ sym (ap (λ x. steps 192 low n (bit_xor x (new * 2 ^ (192 - n)))) whole
    ∙ steps-at_once 192 low positive n top new left few fits)

pub byte_step : (low v byte : ℕ) → v < 2 ^ 192
    → bit_xor (v * 2 ^ 8 % 2 ^ 192) (steps 192 low 8 (bit_xor (v / 2 ^ 184) byte * 2 ^ 184)) ≡ steps 192 low 8 (bit_xor v (byte * 2 ^ 184))
byte_step low v byte h =
    let few : 8 ≤ 192 = omega arith in
    let whole : v ≡ v / 2 ^ 184 * 2 ^ 184 + v % 2 ^ 184 = omega arith in
    let fits : v % 2 ^ 184 < 2 ^ 184 = omega arith in
    let up : v * 2 ^ 8 % 2 ^ 192 ≡ v % 2 ^ 184 * 2 ^ 8 = omega arith in
    at_once low 8 v (v / 2 ^ 184) (v % 2 ^ 184) byte (v * 2 ^ 8 % 2 ^ 192) few whole fits up

pub block_step : (low v block : ℕ) → v < 2 ^ 192
    → bit_xor (v * 2 ^ 64 % 2 ^ 192) (steps 192 low 64 (bit_xor (v / 2 ^ 128) block * 2 ^ 128)) ≡ steps 192 low 64 (bit_xor v (block * 2 ^ 128))
block_step low v block h =
    let few : 64 ≤ 192 = omega arith in
    let whole : v ≡ v / 2 ^ 128 * 2 ^ 128 + v % 2 ^ 128 = omega arith in
    let fits : v % 2 ^ 128 < 2 ^ 128 = omega arith in
    let up : v * 2 ^ 64 % 2 ^ 192 ≡ v % 2 ^ 128 * 2 ^ 64 = omega arith in
    at_once low 64 v (v / 2 ^ 128) (v % 2 ^ 128) block (v * 2 ^ 64 % 2 ^ 192) few whole fits up

-- what the upper and the lower half of a number at the top leave together
pub halves_carried : (low w n p q k v a b : ℕ) → p + w ≡ 192 → q + w ≡ p → k ≡ w + n
    → (high rest : ℕ) → v ≡ high * 2 ^ w + rest → rest < 2 ^ w
    → a ≡ steps 192 low k (high * 2 ^ p) → b ≡ steps 192 low n (rest * 2 ^ p)
    → bit_xor a b ≡ steps 192 low k (v * 2 ^ q)
halves_carried low w n p q k v a b e f g high rest whole fits ea eb =
    let positive : 0 < 192 = omega arith in
    ap₂ bit_xor (ea ∙ ap (λ i. steps 192 low i (high * 2 ^ p)) g) eb
    ∙ steps-joined 192 low positive w n p q high rest e f fits
    ∙ sym (ap₂ (λ i x. steps 192 low i (x * 2 ^ q)) g whole)

-- ---- the bits that a register holds

pub drop_end : (w : List Bool) → drop (length w) w ≡ []
drop_end [] = refl
drop_end (b ∷ w) = drop_end w

pub holds_nothing : (r : Register) (w : List Bool) → w ≡ [] → value_of r ≡ 0 → Holds r w
holds_nothing r w e z = subst (Holds r) (sym e) (record { fits = omega arith; value = omega arith })

-- a bit put on top of those held
pub holds_below : (r s : Register) (b : Bool) (u w : List Bool) → u ≡ b ∷ w → length u ≤ 192 → Holds r w
    → value_of s ≡ number b * 2 ^ 191 + value_of r / 2 → Holds s u
holds_below r s b u w e fits h v =
    let few : length w < 192 = omega (arith, ap length e) in
    subst (Holds s) (sym e) (record { fits = omega arith; value = v ∙ held_below b w (value_of r) few h.value })

-- the top bit taken off
pub holds_next : (r s : Register) (b : Bool) (u w : List Bool) → u ≡ b ∷ w → Holds r u → value_of s ≡ value_of r * 2 % 2 ^ 192 → Holds s w
holds_next r s b u w e h v =
    let h' = subst (Holds r) e h in
    let few : length w < 192 = omega (arith, h'.fits) in
    record { fits = omega arith; value = v ∙ held_next b w (value_of r) few h'.value }

pub holds_top : (r : Register) (b c : Bool) (u w : List Bool) → u ≡ b ∷ w → Holds r u → number c ≡ value_of r / 2 ^ 191 → c ≡ b
holds_top r b c u w e h v =
    let h' = subst (Holds r) e h in
    let few : length w < 192 = omega (arith, h'.fits) in
    number_same c b (v ∙ held_top b w (value_of r) few h'.value)

pub zeros-number : (n : ℕ) → number_of (replicate n false) ≡ 0
zeros-number zero = refl
zeros-number (suc n) = omega (arith, zeros-number n)

pub holds_sum : (r s v : Register) (u w : List Bool) → length u ≡ length w → Holds r u → Holds s w
    → value_of v ≡ bit_xor (value_of r) (value_of s) → Holds v (added u w)
holds_sum r s v u w e hr hs is =
    let long : length (added u w) ≡ length w = length-added u w in
    record {
      fits = omega (arith, long, hs.fits);
      value = is
          ∙ ap₂ bit_xor (hr.value ∙ ap (λ n. number_of u * 2 ^ (192 - n)) e) hs.value
          ∙ sym (xor-scale (number_of u) (number_of w) (192 - length w))
          ∙ ap₂ (λ x n. x * 2 ^ (192 - n)) (sym (number_of-sum u w e)) (sym long);
    }

pub holds_tail : (r : Register) (t u : List Bool) → value_of r ≡ number_of t * 2 ^ (192 - length t) → length t ≤ 192 → u ≡ t → Holds r u
holds_tail r t u v h e = subst (Holds r) (sym e) (record { fits = h; value = v })
