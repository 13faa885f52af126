-- The bits of bytes.
use Rattle.std.proofs.Common.{◌≡◌, ℕ, zero, suc, ◌+◌, ◌-◌, ◌*◌, ◌/◌, ◌%◌, ◌^◌, ◌<◌, ◌≤◌, Bool, false, List, [], ◌∷◌, ◌++◌, take, get_or, length, ◌==◌, inl, inr, refl, sym, ap, ◌∙◌, arith, eq-eqb, ne_eqb, length-append, append-nil, slice_index}
use Rattle.std.proofs.lemmas.Bool.{cases_eq, cases_lt}
use Rattle.std.proofs.lemmas.List.{get_or-append_right, get_or-take, get_or_append_left, length-take-le, take_more}
use Rattle.std.proofs.lemmas.List.Concat.{flat_map-append}
use Rattle.s2_bits.specs.Bits.{bit_at, bit_of_bytes, byte_of, number, bits_of_byte, bits_of_bytes}

pub length-bits_of_byte : (byte : ℕ) → length (bits_of_byte byte) ≡ 8
unfolding bits_of_byte
length-bits_of_byte byte = refl

pub length-bits_of_bytes : (bytes : List ℕ) → length (bits_of_bytes bytes) ≡ 8 * length bytes
length-bits_of_bytes [] = refl
length-bits_of_bytes (byte ∷ bytes) =
    let rest : length (bits_of_bytes bytes) ≡ 8 * length bytes = length-bits_of_bytes bytes in
    let both : length (bits_of_byte byte ++ bits_of_bytes bytes) ≡ length (bits_of_byte byte) + length (bits_of_bytes bytes) = length-append (bits_of_byte byte) (bits_of_bytes bytes) in
    omega (arith, length-bits_of_byte byte)

-- one byte more is spelt
pub one_byte_more : (bytes : List ℕ) (i : ℕ) → i < length bytes → bits_of_bytes (take (i + 1) bytes) ≡ bits_of_bytes (take i bytes) ++ bits_of_byte (get_or bytes i 0)
one_byte_more bytes i lt =
    ap bits_of_bytes (take_more bytes i 0 lt)
    ∙ flat_map-append bits_of_byte (take i bytes) (get_or bytes i 0 ∷ [])
    ∙ ap (λ l. bits_of_bytes (take i bytes) ++ l) (append-nil (bits_of_byte (get_or bytes i 0)))

-- a bit of one byte, and of many
bit_of_one : (byte k : ℕ) → k < 8 → bit_at (bits_of_byte byte) k ≡ (byte / 2 ^ (7 - k % 8) % 2 == 1)
unfolding bits_of_byte
bit_of_one byte zero low = refl
bit_of_one byte (suc zero) low = refl
bit_of_one byte (suc (suc zero)) low = refl
bit_of_one byte (suc (suc (suc zero))) low = refl
bit_of_one byte (suc (suc (suc (suc zero)))) low = refl
bit_of_one byte (suc (suc (suc (suc (suc zero))))) low = refl
bit_of_one byte (suc (suc (suc (suc (suc (suc zero)))))) low = refl
bit_of_one byte (suc (suc (suc (suc (suc (suc (suc zero))))))) low = refl
bit_of_one byte (suc (suc (suc (suc (suc (suc (suc (suc k)))))))) low = absurd (omega (arith, low))

pub bit_of_all : (bytes : List ℕ) (k : ℕ) → k < 8 * length bytes → bit_at (bits_of_bytes bytes) k ≡ bit_of_bytes bytes k
bit_of_all [] k low = absurd (omega (arith, low))
bit_of_all (byte ∷ bytes) k low = elim (cases_lt k 8) [
  | inl small ↦ (
      let none : k / 8 ≡ 0 = omega (arith, small) in
      let within : k < length (bits_of_byte byte) = omega (arith, small, length-bits_of_byte byte) in
      get_or_append_left (bits_of_byte byte) (bits_of_bytes bytes) false k within ∙ bit_of_one byte k small ∙ ap (λ (n : ℕ). slice_index (byte ∷ bytes) n / 2 ^ (7 - k % 8) % 2 == 1) (sym none)
      )
  | inr big ↦ (
      let from = k - 8 in
      let k_is : k ≡ 8 + from = omega (arith, big) in
      let next : k / 8 ≡ suc (from / 8) = omega (arith, k_is) in
      let rest : k % 8 ≡ from % 8 = omega (arith, k_is) in
      let past = get_or-append_right (bits_of_byte byte) (bits_of_bytes bytes) 8 k false (length-bits_of_byte byte) big in
      past ∙ bit_of_all bytes from (omega (arith, low, big)) ∙ (λ i. slice_index (byte ∷ bytes) (sym next i) / 2 ^ (7 - sym rest i) % 2 == 1)
      )
]

-- the first bytes, spelt
pub bit_of_first : (bytes : List ℕ) (bits : List Bool) (w : ℕ) → w ≤ length bytes → bits ≡ bits_of_bytes (take w bytes) → (length bits ≡ 8 * w) × ((k : ℕ) → k < 8 * w → bit_at bits k ≡ bit_of_bytes bytes k)
bit_of_first bytes bits w within is = (
  ap length is ∙ length-bits_of_bytes (take w bytes) ∙ ap (λ n. 8 * n) (length-take-le w bytes within),
  λ k low. (
      let there : k / 8 < w = omega (arith, low) in
      ap (λ l. bit_at l k) is ∙ bit_of_all (take w bytes) k (omega (arith, low, length-take-le w bytes within)) ∙ ap (λ (byte : ℕ). byte / 2 ^ (7 - k % 8) % 2 == 1) (get_or-take w bytes (k / 8) 0 there)
      ),
)

-- the bits of a byte make the byte
pub byte_back : (byte : ℕ) → byte < 256 → byte_of (bit_at (bits_of_byte byte)) ≡ byte
unfolding bits_of_byte
byte_back byte small =
    let bit = λ (k : ℕ). number (bit_at (bits_of_byte byte) k) in
    let a : bit 0 ≡ byte / 128 % 2 = odd (byte / 128) in
    let b : bit 1 ≡ byte / 64 % 2 = odd (byte / 64) in
    let c : bit 2 ≡ byte / 32 % 2 = odd (byte / 32) in
    let d : bit 3 ≡ byte / 16 % 2 = odd (byte / 16) in
    let e : bit 4 ≡ byte / 8 % 2 = odd (byte / 8) in
    let f : bit 5 ≡ byte / 4 % 2 = odd (byte / 4) in
    let g : bit 6 ≡ byte / 2 % 2 = odd (byte / 2) in
    let h : bit 7 ≡ byte / 1 % 2 = odd (byte / 1) in
    omega (arith, small)
  where
    odd : (v : ℕ) → number (v % 2 == 1) ≡ v % 2
    odd v = elim (cases_eq (v % 2) 1) [ inl one ↦ rw (eq-eqb (v % 2) 1 one) (sym one) | inr other ↦ rw (ne_eqb (v % 2) 1 other) (omega (arith, other)) ]
