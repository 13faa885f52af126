-- Multiplication by a small power of `x` at once: the bits above the field's are folded back (EN 302 307-1, 5.3.1).
use Rattle.std.specs.Prelude.{ℕ, ◌*◌, ◌%◌, bit_xor}

-- the value of x^16 * h and of x^14 * h, in 16 bits
abbrev pub folded_16 : ℕ → ℕ
folded_16 h = bit_xor (bit_xor (bit_xor h (h * 4 % 65536)) (h * 8 % 65536)) (h * 32 % 65536)

abbrev pub folded_14 : ℕ → ℕ
folded_14 h = bit_xor (bit_xor (bit_xor h (h * 2 % 65536)) (h * 8 % 65536)) (h * 32 % 65536)
