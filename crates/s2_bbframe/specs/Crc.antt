-- CRC-8: the remainder by x^8 + x^7 + x^6 + x^4 + x^2 + 1 (EN 302 307-1, 5.1.4).
-- A polynomial of degree below 8 is a byte, the coefficient of x^7 its highest bit.
use Rattle.std.specs.Prelude.{ℕ, ◌*◌, nat_le, Bool, List, [], ◌∷◌, bit_xor, if◌then◌else◌, length, ◌<◌, ◌≡◌, ◌^◌}
use Rattle.s2_bits.specs.Bits.{bits_of_bytes}

-- the nine coefficients, 1 1101 0101
abbrev pub generator : ℕ
generator = 469

-- a remainder times x: twice the number, less the generator if x^8 appears
unfoldable pub times_x : ℕ → ℕ
times_x r = bit_xor (2 * r) (if nat_le 128 r then generator else 0)

-- the remainder of x^8 times a polynomial with one coefficient more, from that of x^8 times the polynomial
unfoldable pub next_bit : ℕ → Bool → ℕ
next_bit r bit = times_x (if bit then bit_xor r 128 else r)

-- the same for more coefficients, the highest first
unfoldable pub remainder : ℕ → List Bool → ℕ
remainder r [] = r
remainder r (bit ∷ bits) = remainder (next_bit r bit) bits

-- the remainder of x^8 times the polynomial of all the bits
unfoldable pub crc8 : List ℕ → ℕ
crc8 bytes = remainder 0 (bits_of_bytes bytes)

-- a polynomial times the one with these coefficients, the highest first
unfoldable pub product : ℕ → List Bool → ℕ
product p [] = 0
product p (bit ∷ bits) = bit_xor (if bit then p * 2 ^ length bits else 0) (product p bits)

-- x^8, the number 256, times the polynomial with these coefficients is the sum of a multiple of the generator and a
-- remainder of degree below 8
abbrev pub IsRemainder : List Bool → ℕ → Type 0
IsRemainder bits r = (r < 256) × ((quotient : List Bool) × (product 256 bits ≡ bit_xor (product generator quotient) r))

-- the CRC-8 is the remainder of the bytes' polynomial
abbrev pub RemainderLaw : Type 0
RemainderLaw = (bytes : List ℕ) → IsRemainder (bits_of_bytes bytes) (crc8 bytes)
