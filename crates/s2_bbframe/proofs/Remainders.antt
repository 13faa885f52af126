-- The table of CRC-8: a byte that is added to a remainder, and then eight times x.
use Rattle.std.proofs.Common.{◌≡◌, ℕ, zero, suc, ◌+◌, ◌-◌, ◌*◌, ◌/◌, ◌%◌, ◌<◌, ◌≤◌, Bool, true, false, List, [], ◌∷◌, ◌++◌, get_or, length, refl, sym, ap, subst, ◌∙◌, arith, inl, inr}
use Rattle.std.specs.Prelude.{◌==◌, ◌&&◌, not, nat_le, nat_lt, if◌then◌else◌, bit_xor}
use Rattle.std.specs.Int.Bits.{xor_assoc, xor_self, xor_zero_r, xor_step}
use Rattle.std.proofs.lemmas.Nat.{xor_comm, xor_lt, xor_of_8}
use Rattle.std.proofs.lemmas.List.Concat.{flat_map-cons}
use Rattle.std.specs.List.{flat_map}
use Rattle.std.proofs.lemmas.Bool.{eqb-true, leb-true}
use Rattle.std.proofs.lemmas.Bool.Decides.{leb_tells}
use Rattle.s2_bbframe.proofs.Finite.{both, at_number}
use Rattle.s2_bits.specs.Bits.{bits_of_byte}
use Rattle.s2_bbframe.specs.Crc.{generator, times_x, next_bit, remainder}

-- ---- a remainder times x

xor-swap : (a b c : ℕ) → bit_xor (bit_xor a b) c ≡ bit_xor (bit_xor a c) b
xor-swap a b c = xor_assoc a b c ∙ ap (bit_xor a) (xor_comm b c) ∙ sym (xor_assoc a c b)

pub xor-back : (a b : ℕ) → bit_xor (bit_xor a b) b ≡ a
xor-back a b = xor_assoc a b b ∙ ap (bit_xor a) (xor_self b) ∙ xor_zero_r a

pub double-xor : (a b : ℕ) → 2 * bit_xor a b ≡ bit_xor (2 * a) (2 * b)
double-xor a b =
    let half_a : 2 * a / 2 ≡ a = omega arith in
    let half_b : 2 * b / 2 ≡ b = omega arith in
    let even_a : 2 * a % 2 ≡ 0 = omega arith in
    let even_b : 2 * b % 2 ≡ 0 = omega arith in
    let step = rw (half_a, half_b, even_a, even_b) at (xor_step (2 * a) (2 * b)) in
    omega (arith, step)

-- whether x^7 stands does not change by lower powers
top-xor : (a low : ℕ) → low < 128 → nat_le 128 (bit_xor a low) ≡ nat_le 128 a
top-xor a low small =
    elim (leb_tells 128 a) [
      | inl high ↦ elim (leb_tells 128 (bit_xor a low)) [
        | inl here ↦ here.0 ∙ sym high.0
        | inr below ↦
            let back : bit_xor (bit_xor a low) low < 128 = xor_lt 7 (bit_xor a low) low below.1 small in
            let lower : a < 128 = subst (λ x. x < 128) (xor-back a low) back in
            let higher : 128 ≤ a = high.1 in
            absurd (omega arith)
      ]
      | inr lower ↦ elim (leb_tells 128 (bit_xor a low)) [
        | inl here ↦
            let below : bit_xor a low < 128 = xor_lt 7 a low lower.1 small in
            let above : 128 ≤ bit_xor a low = here.1 in
            absurd (omega arith)
        | inr below ↦ below.0 ∙ sym lower.0
      ]
    ]

times_x-xor : (a low : ℕ) → low < 128 → times_x (bit_xor a low) ≡ bit_xor (times_x a) (2 * low)
unfolding times_x
times_x-xor a low small =
    let less : ℕ = if nat_le 128 a then generator else 0 in
    ap (λ top. bit_xor (2 * bit_xor a low) (if top then generator else 0)) (top-xor a low small)
    ∙ ap (λ x. bit_xor x less) (double-xor a low)
    ∙ xor-swap (2 * a) (2 * low) less

pub times_x-lt : (r : ℕ) → r < 256 → times_x r < 256
unfolding times_x
times_x-lt r byte = leb-true (suc (times_x r)) 256 (at_number (λ r. nat_lt (times_x r) 256) 256 r refl byte)

-- so many times x
unfoldable pub times : ℕ → ℕ → ℕ
times zero r = r
times (suc n) r = times n (times_x r)

-- ---- the bits of a byte, by moving them up

-- without the highest bit
abbrev lower : ℕ → ℕ
lower v = if nat_le 128 v then v - 128 else v

unfoldable top_bits : ℕ → ℕ → List Bool
top_bits zero v = []
top_bits (suc n) v = nat_le 128 v ∷ top_bits n (2 * lower v)

unfoldable moved : ℕ → ℕ → ℕ
moved zero v = v
moved (suc n) v = moved n (2 * lower v)

abbrev same_bit : Bool → Bool → Bool
same_bit true b = b
same_bit false b = not b

abbrev same : List Bool → List Bool → Bool
same [] [] = true
same (a ∷ as') (b ∷ bs) = same_bit a b && same as' bs
same as' bs = false

same_bit-true : (a b : Bool) → same_bit a b ≡ true → a ≡ b
same_bit-true true b e = sym e
same_bit-true false true e = cc
same_bit-true false false e = refl

same-true : (as' bs : List Bool) → same as' bs ≡ true → as' ≡ bs
same-true [] [] e = refl
same-true [] (b ∷ bs) e = absurd (cc)
same-true (a ∷ as') [] e = absurd (cc)
same-true (a ∷ as') (b ∷ bs) e =
    let parts = both (same_bit a b) (same as' bs) e in
    let first = same_bit-true a b parts.0 in
    let rest = same-true as' bs parts.1 in
    cc

bits_of_byte-top : (byte : ℕ) → byte < 256 → bits_of_byte byte ≡ top_bits 8 byte
unfolding bits_of_byte top_bits
bits_of_byte-top byte fits = same-true _ _ (at_number (λ v. same (bits_of_byte v) (top_bits 8 v)) 256 byte refl fits)

moved-out : (byte : ℕ) → byte < 256 → moved 8 byte ≡ 0
unfolding moved
moved-out byte fits = eqb-true _ _ (at_number (λ v. moved 8 v == 0) 256 byte refl fits)

lower-lt : (v : ℕ) → v < 256 → lower v < 128
lower-lt v fits = leb-true (suc (lower v)) 128 (at_number (λ v. nat_lt (lower v) 128) 256 v refl fits)

-- a byte is its highest bit and the lower ones
split : (v : ℕ) → v < 256 → v ≡ bit_xor (if nat_le 128 v then 128 else 0) (lower v)
split v fits = eqb-true _ _ (at_number (λ v. v == bit_xor (if nat_le 128 v then 128 else 0) (lower v)) 256 v refl fits)

-- ---- one byte

unfoldable pub next_byte : ℕ → ℕ → ℕ
next_byte r byte = remainder r (bits_of_byte byte)

added : (r : ℕ) (bit : Bool) → bit_xor r (if bit then 128 else 0) ≡ (if bit then bit_xor r 128 else r)
added r true = refl
added r false = xor_zero_r r

next_bit-byte : (r v : ℕ) → v < 256 → bit_xor (next_bit r (nat_le 128 v)) (2 * lower v) ≡ times_x (bit_xor r v)
unfolding next_bit
next_bit-byte r v fits =
    let top : ℕ = if nat_le 128 v then 128 else 0 in
    ap (λ x. bit_xor (times_x x) (2 * lower v)) (sym (added r (nat_le 128 v)))
    ∙ sym (times_x-xor (bit_xor r top) (lower v) (lower-lt v fits))
    ∙ ap times_x (xor_assoc r top (lower v) ∙ ap (bit_xor r) (sym (split v fits)))

remainder-top : (n r v : ℕ) → v < 256 → bit_xor (remainder r (top_bits n v)) (moved n v) ≡ times n (bit_xor r v)
unfolding remainder top_bits moved times
remainder-top zero r v fits = refl
remainder-top (suc n) r v fits =
    let low : lower v < 128 = lower-lt v fits in
    remainder-top n (next_bit r (nat_le 128 v)) (2 * lower v) (omega arith) ∙ ap (times n) (next_bit-byte r v fits)

pub next_byte-times : (r byte : ℕ) → byte < 256 → next_byte r byte ≡ times 8 (bit_xor r byte)
unfolding next_byte
next_byte-times r byte fits =
    ap (remainder r) (bits_of_byte-top byte fits)
    ∙ sym (xor_zero_r (remainder r (top_bits 8 byte)))
    ∙ ap (bit_xor (remainder r (top_bits 8 byte))) (sym (moved-out byte fits))
    ∙ remainder-top 8 r byte fits

-- ---- sums

times_x-top : (a : ℕ) → a < 256 → times_x (bit_xor a 128) ≡ bit_xor (times_x a) (times_x 128)
unfolding times_x
times_x-top a fits = eqb-true _ _ (at_number (λ a. times_x (bit_xor a 128) == bit_xor (times_x a) (times_x 128)) 256 a refl fits)

times_x-added : (a : ℕ) (top : Bool) → a < 256 → times_x (bit_xor a (if top then 128 else 0)) ≡ bit_xor (times_x a) (times_x (if top then 128 else 0))
unfolding times_x
times_x-added a true fits = times_x-top a fits
times_x-added a false fits = ap times_x (xor_zero_r a) ∙ sym (xor_zero_r (times_x a))

times_x-sum : (a b : ℕ) → a < 256 → b < 256 → times_x (bit_xor a b) ≡ bit_xor (times_x a) (times_x b)
times_x-sum a b fits_a fits_b =
    let high : Bool = nat_le 128 b in
    let top : ℕ = if high then 128 else 0 in
    let low : lower b < 128 = lower-lt b fits_b in
    ap (λ v. times_x (bit_xor a v)) (split b fits_b)
    ∙ ap times_x (sym (xor_assoc a top (lower b)))
    ∙ times_x-xor (bit_xor a top) (lower b) low
    ∙ ap (λ v. bit_xor v (2 * lower b)) (times_x-added a high fits_a)
    ∙ xor_assoc (times_x a) (times_x top) (2 * lower b)
    ∙ ap (bit_xor (times_x a)) (sym (times_x-xor top (lower b) low) ∙ ap times_x (sym (split b fits_b)))

pub times-sum : (n a b : ℕ) → a < 256 → b < 256 → times n (bit_xor a b) ≡ bit_xor (times n a) (times n b)
unfolding times
times-sum zero a b fits_a fits_b = refl
times-sum (suc n) a b fits_a fits_b =
    ap (times n) (times_x-sum a b fits_a fits_b) ∙ times-sum n (times_x a) (times_x b) (times_x-lt a fits_a) (times_x-lt b fits_b)

pub times-lt : (n r : ℕ) → r < 256 → times n r < 256
unfolding times
times-lt zero r fits = fits
times-lt (suc n) r fits = times-lt n (times_x r) (times_x-lt r fits)

pub times-more : (n m r : ℕ) → times n (times m r) ≡ times (m + n) r
unfolding times
times-more n zero r =
    let same : n ≡ 0 + n = omega arith in
    ap (λ k. times k r) same
times-more n (suc m) r =
    let more : suc (m + n) ≡ suc m + n = omega arith in
    times-more n m (times_x r) ∙ ap (λ k. times k r) more

next_byte-sum : (a b byte : ℕ) → a < 256 → b < 256 → byte < 256 → next_byte (bit_xor a b) byte ≡ bit_xor (bit_xor (times 8 a) (times 8 b)) (times 8 byte)
next_byte-sum a b byte fits_a fits_b fits =
    next_byte-times (bit_xor a b) byte fits
    ∙ times-sum 8 (bit_xor a b) byte (xor_of_8 a b fits_a fits_b) fits
    ∙ ap (λ v. bit_xor v (times 8 byte)) (times-sum 8 a b fits_a fits_b)

-- ---- bytes one after another

pub remainder-append : (r : ℕ) (xs ys : List Bool) → remainder r (xs ++ ys) ≡ remainder (remainder r xs) ys
unfolding remainder
remainder-append r [] ys = refl
remainder-append r (x ∷ xs) ys = remainder-append (next_bit r x) xs ys

remainder-cons : (r byte : ℕ) (bytes : List ℕ) → remainder r (flat_map bits_of_byte (byte ∷ bytes)) ≡ remainder (next_byte r byte) (flat_map bits_of_byte bytes)
unfolding next_byte
remainder-cons r byte bytes = ap (remainder r) (flat_map-cons bits_of_byte byte bytes) ∙ remainder-append r (bits_of_byte byte) (flat_map bits_of_byte bytes)

-- four bytes: each is as many times x as bits follow it, and the remainder so far is added to the first
pub remainder-four : (r a b c d : ℕ) → r < 256 → a < 256 → b < 256 → c < 256 → d < 256 →
    bit_xor (bit_xor (bit_xor (times 32 (bit_xor r a)) (times 24 b)) (times 16 c)) (times 8 d) ≡ remainder r (flat_map bits_of_byte (a ∷ b ∷ c ∷ d ∷ []))
unfolding remainder
remainder-four r a b c d fits_r fits_a fits_b fits_c fits_d =
    let s : ℕ = bit_xor r a in
    let fits : s < 256 = xor_of_8 r a fits_r fits_a in
    let first : next_byte r a ≡ times 8 s = next_byte-times r a fits_a in
    let second : next_byte (times 8 s) b ≡ bit_xor (times 16 s) (times 8 b) =
    next_byte-times (times 8 s) b fits_b ∙ times-sum 8 (times 8 s) b (times-lt 8 s fits) fits_b ∙ ap (λ v. bit_xor v (times 8 b)) (times-more 8 8 s) in
    let third : next_byte (bit_xor (times 16 s) (times 8 b)) c ≡ bit_xor (bit_xor (times 24 s) (times 16 b)) (times 8 c) =
    next_byte-sum (times 16 s) (times 8 b) c (times-lt 16 s fits) (times-lt 8 b fits_b) fits_c
    ∙ ap (λ v. bit_xor (bit_xor v (times 8 (times 8 b))) (times 8 c)) (times-more 8 16 s)
    ∙ ap (λ v. bit_xor (bit_xor (times 24 s) v) (times 8 c)) (times-more 8 8 b) in
    let pair : ℕ = bit_xor (times 24 s) (times 16 b) in
    let fourth : next_byte (bit_xor pair (times 8 c)) d ≡ bit_xor (bit_xor (bit_xor (times 32 s) (times 24 b)) (times 16 c)) (times 8 d) =
    next_byte-sum pair (times 8 c) d (xor_of_8 _ _ (times-lt 24 s fits) (times-lt 16 b fits_b)) (times-lt 8 c fits_c) fits_d
    ∙ ap (λ v. bit_xor (bit_xor v (times 8 (times 8 c))) (times 8 d)) (times-sum 8 (times 24 s) (times 16 b) (times-lt 24 s fits) (times-lt 16 b fits_b))
    ∙ ap (λ v. bit_xor (bit_xor (bit_xor v (times 8 (times 16 b))) (times 8 (times 8 c))) (times 8 d)) (times-more 8 24 s)
    ∙ ap (λ v. bit_xor (bit_xor (bit_xor (times 32 s) v) (times 8 (times 8 c))) (times 8 d)) (times-more 8 16 b)
    ∙ ap (λ v. bit_xor (bit_xor (bit_xor (times 32 s) (times 24 b)) v) (times 8 d)) (times-more 8 8 c) in
    sym fourth
    ∙ ap (λ v. next_byte v d) (sym third)
    ∙ ap (λ v. next_byte (next_byte v c) d) (sym second)
    ∙ ap (λ v. next_byte (next_byte (next_byte v b) c) d) (sym first)
    ∙ sym (remainder-cons (next_byte (next_byte (next_byte r a) b) c) d [])
    ∙ sym (remainder-cons (next_byte (next_byte r a) b) c (d ∷ []))
    ∙ sym (remainder-cons (next_byte r a) b (c ∷ d ∷ []))
    ∙ sym (remainder-cons r a (b ∷ c ∷ d ∷ []))

pub four : (bytes : List ℕ) → length bytes ≡ 4 → bytes ≡ get_or bytes 0 0 ∷ get_or bytes 1 0 ∷ get_or bytes 2 0 ∷ get_or bytes 3 0 ∷ []
four (a ∷ b ∷ c ∷ d ∷ []) is = refl
four [] is = absurd (cc)
four (a ∷ []) is = absurd (cc)
four (a ∷ b ∷ []) is = absurd (cc)
four (a ∷ b ∷ c ∷ []) is = absurd (cc)
four (a ∷ b ∷ c ∷ d ∷ e ∷ rest) is = absurd (omega (arith, is))

pub sums : (a b c d a' b' c' d' : ℕ) → a ≡ a' → b ≡ b' → c ≡ c' → d ≡ d' → bit_xor (bit_xor (bit_xor a b) c) d ≡ bit_xor (bit_xor (bit_xor a' b') c') d'
sums a b c d a' b' c' d' is_a is_b is_c is_d =
    ap (λ v. bit_xor (bit_xor (bit_xor v b) c) d) is_a
    ∙ ap (λ v. bit_xor (bit_xor (bit_xor a' v) c) d) is_b
    ∙ ap (λ v. bit_xor (bit_xor (bit_xor a' b') v) d) is_c
    ∙ ap (bit_xor (bit_xor (bit_xor a' b') c')) is_d
