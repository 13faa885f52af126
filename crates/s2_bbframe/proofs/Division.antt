-- The remainder is that of a division.
use Rattle.std.proofs.Common.{◌≡◌, ℕ, zero, suc, ◌*◌, ◌<◌, ◌^◌, Bool, true, false, List, [], ◌∷◌, length, refl, sym, ap, ◌∙◌, arith}
use Rattle.std.specs.Prelude.{nat_le, if◌then◌else◌, bit_xor}
use Rattle.std.specs.Int.Bits.{xor_assoc, xor_zero_l, xor_zero_r}
use Rattle.std.specs.List.{flat_map}
use Rattle.std.proofs.lemmas.Nat.{xor_comm, xor_of_8}
use Rattle.std.proofs.Math.Nat.{pow-suc}
use Rattle.s2_bits.specs.Bits.{bits_of_byte}
use Rattle.s2_bbframe.specs.Crc.{generator, times_x, next_bit, remainder, crc8, product, RemainderLaw}
use Rattle.s2_bbframe.proofs.Remainders.{times_x-lt, double-xor, xor-back}

doubled : (v n : ℕ) → 2 * (v * 2 ^ n) ≡ v * 2 ^ suc n
doubled v n =
    let power : 2 ^ suc n ≡ 2 ^ n * 2 = pow-suc 2 n in
    grind (arith, power)

times-power : (n a b : ℕ) → bit_xor a b * 2 ^ n ≡ bit_xor (a * 2 ^ n) (b * 2 ^ n)
times-power zero a b =
    let one : (v : ℕ) → v * 2 ^ 0 ≡ v = λ v. omega arith in
    one (bit_xor a b) ∙ ap (λ v. bit_xor v b) (sym (one a)) ∙ ap (bit_xor (a * 2 ^ 0)) (sym (one b))
times-power (suc n) a b =
    sym (doubled (bit_xor a b) n) ∙ ap (λ v. 2 * v) (times-power n a b) ∙ double-xor (a * 2 ^ n) (b * 2 ^ n)
    ∙ ap (λ v. bit_xor v (2 * (b * 2 ^ n))) (doubled a n) ∙ ap (bit_xor (a * 2 ^ suc n)) (doubled b n)

raised-alone : (r n : ℕ) → r * 2 ^ suc n ≡ 2 * r * 2 ^ n
raised-alone r n =
    let power : 2 ^ suc n ≡ 2 ^ n * 2 = pow-suc 2 n in
    grind (arith, power)

-- with a bit added at x^7
abbrev with_bit : ℕ → Bool → ℕ
with_bit r bit = if bit then bit_xor r 128 else r

with_bit-lt : (r : ℕ) (bit : Bool) → r < 256 → with_bit r bit < 256
with_bit-lt r true fits = xor_of_8 r 128 fits (omega arith)
with_bit-lt r false fits = fits

-- a bit at x^8 is one at x^7 before the step
raised : (r n : ℕ) (bit : Bool) → bit_xor (r * 2 ^ suc n) (if bit then 256 * 2 ^ n else 0) ≡ 2 * with_bit r bit * 2 ^ n
raised r n true =
    ap (λ v. bit_xor v (256 * 2 ^ n)) (raised-alone r n) ∙ sym (times-power n (2 * r) 256) ∙ ap (λ v. v * 2 ^ n) (sym (double-xor r 128))
raised r n false =
    xor_zero_r (r * 2 ^ suc n) ∙ raised-alone r n

-- twice a remainder is what is left and perhaps the generator
parted : (s n : ℕ) → bit_xor (if nat_le 128 s then generator * 2 ^ n else 0) (times_x s * 2 ^ n) ≡ 2 * s * 2 ^ n
unfolding times_x
parted s n = chosen (nat_le 128 s)
  where
    chosen : (top : Bool) → bit_xor (if top then generator * 2 ^ n else 0) (bit_xor (2 * s) (if top then generator else 0) * 2 ^ n) ≡ 2 * s * 2 ^ n
    chosen true =
        sym (times-power n generator (bit_xor (2 * s) generator))
        ∙ ap (λ v. v * 2 ^ n) (xor_comm generator (bit_xor (2 * s) generator) ∙ xor-back (2 * s) generator)
    chosen false = xor_zero_l (bit_xor (2 * s) 0 * 2 ^ n) ∙ ap (λ v. v * 2 ^ n) (xor_zero_r (2 * s))

-- what is divided: the remainder so far in the highest places, then the bits
abbrev Divides : ℕ → List Bool → Type 0
Divides r bits = (quotient : List Bool) × (length quotient ≡ length bits) × (bit_xor (r * 2 ^ length bits) (product 256 bits) ≡ bit_xor (product generator quotient) (remainder r bits))

divides : (r : ℕ) (bits : List Bool) → r < 256 → Divides r bits
unfolding product remainder next_bit
divides r [] fits =
    let one : r * 2 ^ 0 ≡ r = omega arith in
    ([], refl, xor_zero_r (r * 2 ^ 0) ∙ one ∙ sym (xor_zero_l r))
divides r (bit ∷ bits) fits =
    let n : ℕ = length bits in
    let s : ℕ = with_bit r bit in
    let top : Bool = nat_le 128 s in
    let rest = divides (times_x s) bits (times_x-lt s (with_bit-lt r bit fits)) in
    let high : ℕ = if top then generator * 2 ^ n else 0 in
    let same : (if top then generator * 2 ^ length rest.0 else 0) ≡ high = ap (λ k. if top then generator * 2 ^ k else 0) rest.1 in
    let divided =
    sym (xor_assoc (r * 2 ^ suc n) (if bit then 256 * 2 ^ n else 0) (product 256 bits))
    ∙ ap (λ v. bit_xor v (product 256 bits)) (raised r n bit ∙ sym (parted s n))
    ∙ xor_assoc high (times_x s * 2 ^ n) (product 256 bits)
    ∙ ap (bit_xor high) rest.2
    ∙ sym (xor_assoc high (product generator rest.0) (remainder (times_x s) bits))
    ∙ ap (λ v. bit_xor (bit_xor v (product generator rest.0)) (remainder (times_x s) bits)) (sym same) in
    (top ∷ rest.0, ap suc rest.1, divided)

remainder-lt : (r : ℕ) (bits : List Bool) → r < 256 → remainder r bits < 256
unfolding remainder next_bit
remainder-lt r [] fits = fits
remainder-lt r (bit ∷ bits) fits = remainder-lt (times_x (with_bit r bit)) bits (times_x-lt (with_bit r bit) (with_bit-lt r bit fits))

pub divided : RemainderLaw
unfolding crc8
divided bytes =
    let bits : List Bool = flat_map bits_of_byte bytes in
    let none : 0 < 256 = omega arith in
    let found = divides 0 bits none in
    let empty : 0 * 2 ^ length bits ≡ 0 = omega arith in
    (remainder-lt 0 bits none, (found.0, sym (xor_zero_l (product 256 bits)) ∙ ap (λ v. bit_xor v (product 256 bits)) (sym empty) ∙ found.2))
