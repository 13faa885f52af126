-- The bits of the bytes of a word are the word's, and zeros past its end.
use Rattle.std.proofs.Common.{◌≡◌, ℕ, zero, suc, ◌+◌, ◌-◌, ◌*◌, ◌/◌, ◌%◌, ◌^◌, ◌≤◌, ◌<◌, ◌==◌, Bool, true, false, List, length, get_or, refl, ap, ◌∙◌, arith}
use Rattle.std.proofs.lemmas.List.{get_or-map}
use Rattle.std.proofs.lemmas.List.FromFn.{length-range_with_len, get_or-range_with_len}
use Rattle.s2_bits.specs.Bits.{bit_at, bit_of_bytes, byte_of, byte_at, number}
use Rattle.s2_certfile.specs.Field.{places, bytes_of_bits}

small : (b : Bool) → number b ≤ 1
small true = omega arith
small false = omega arith

-- the bits of a byte of eight
bits_of_eight : (a b c d e f g h : ℕ) → a ≤ 1 → b ≤ 1 → c ≤ 1 → d ≤ 1 → e ≤ 1 → f ≤ 1 → g ≤ 1 → h ≤ 1 → let n = 128 * a + 64 * b + 32 * c + 16 * d + 8 * e + 4 * f + 2 * g + h in (n / 128 % 2 ≡ a) × (n / 64 % 2 ≡ b) × (n / 32 % 2 ≡ c) × (n / 16 % 2 ≡ d) × (n / 8 % 2 ≡ e) × (n / 4 % 2 ≡ f) × (n / 2 % 2 ≡ g) × (n / 1 % 2 ≡ h)
bits_of_eight a b c d e f g h pa pb pc pd pe pf pg ph = (omega arith, omega arith, omega arith, omega arith, omega arith, omega arith, omega arith, omega arith)

is_one : (b : Bool) → (number b == 1) ≡ b
is_one true = refl
is_one false = refl

-- bit r of a byte, each byte's highest bit first
pub bit_of_byte : (f : ℕ → Bool) (r : ℕ) → r < 8 → (byte_of f / 2 ^ (7 - r) % 2 == 1) ≡ f r
bit_of_byte f r low =
    let all = bits_of_eight (number (f 0)) (number (f 1)) (number (f 2)) (number (f 3)) (number (f 4)) (number (f 5)) (number (f 6)) (number (f 7)) (small (f 0)) (small (f 1)) (small (f 2)) (small (f 3)) (small (f 4)) (small (f 5)) (small (f 6)) (small (f 7)) in
    by_place r low all
  where
    by_place : (r : ℕ) → r < 8 → (byte_of f / 128 % 2 ≡ number (f 0)) × (byte_of f / 64 % 2 ≡ number (f 1)) × (byte_of f / 32 % 2 ≡ number (f 2)) × (byte_of f / 16 % 2 ≡ number (f 3)) × (byte_of f / 8 % 2 ≡ number (f 4)) × (byte_of f / 4 % 2 ≡ number (f 5)) × (byte_of f / 2 % 2 ≡ number (f 6)) × (byte_of f / 1 % 2 ≡ number (f 7)) → (byte_of f / 2 ^ (7 - r) % 2 == 1) ≡ f r
    by_place zero low all = ap (λ n. n == 1) all.0 ∙ is_one (f 0)
    by_place (suc zero) low all = ap (λ n. n == 1) all.1 ∙ is_one (f 1)
    by_place (suc (suc zero)) low all = ap (λ n. n == 1) all.2 ∙ is_one (f 2)
    by_place (suc (suc (suc zero))) low all = ap (λ n. n == 1) all.3 ∙ is_one (f 3)
    by_place (suc (suc (suc (suc zero)))) low all = ap (λ n. n == 1) all.4 ∙ is_one (f 4)
    by_place (suc (suc (suc (suc (suc zero))))) low all = ap (λ n. n == 1) all.5 ∙ is_one (f 5)
    by_place (suc (suc (suc (suc (suc (suc zero)))))) low all = ap (λ n. n == 1) all.6 ∙ is_one (f 6)
    by_place (suc (suc (suc (suc (suc (suc (suc zero))))))) low all = ap (λ n. n == 1) all.7 ∙ is_one (f 7)
    by_place (suc (suc (suc (suc (suc (suc (suc (suc r)))))))) low all = absurd (omega arith)

pub bit_back : (word : List Bool) (k : ℕ) → k < 8 * ((length word + 7) / 8) → bit_of_bytes (bytes_of_bits word) k ≡ bit_at word k
bit_back word k h =
    let m = (length word + 7) / 8 in
    let within : k / 8 < m = omega arith in
    let listed : k / 8 < length (places m) = omega (arith, length-range_with_len 0 m) in
    let place : get_or (places m) (k / 8) 0 ≡ k / 8 = omega (arith, get_or-range_with_len 0 m (k / 8) 0 within) in
    let byte : get_or (bytes_of_bits word) (k / 8) 0 ≡ byte_at word (8 * (k / 8)) = get_or-map (λ i. byte_at word (8 * i)) (places m) (k / 8) 0 0 listed ∙ ap (λ i. byte_at word (8 * i)) place in
    let low : k % 8 < 8 = omega arith in
    let whole : 8 * (k / 8) + k % 8 ≡ k = omega arith in
    ap (λ n. n / 2 ^ (7 - k % 8) % 2 == 1) byte ∙ bit_of_byte (λ i. bit_at word (8 * (k / 8) + i)) (k % 8) low ∙ ap (bit_at word) whole
