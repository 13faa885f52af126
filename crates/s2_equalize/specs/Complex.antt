-- Complex numbers with whole parts, and their quotients by whole numbers (own).
use Rattle.std.specs.Prelude.{ℕ, zero, suc, ◌+◌, ◌*◌, ◌/◌, ◌≤◌, ℤ, pos, ◌+ℤ◌, ◌-ℤ◌, ◌*ℤ◌, neg_ℤ, unsigned_abs, List, slice_index_or, nat_le, if◌then◌else◌}
use Rattle.std.specs.Int.{int_div_euclid}
use Rattle.s2_mode.specs.declared.symbols.Symbol.{Symbol}
use Rattle.s2_equalize.specs.declared.complex.Complex.{Complex}

abbrev pub complex : ℤ → ℤ → Complex
complex re im = record { re = re; im = im }

-- a symbol as a number
abbrev pub number_of : Symbol → Complex
number_of s = complex s.i s.q

-- the number at a place of a list
abbrev pub complex_at : List Complex → ℕ → Complex
complex_at numbers k = slice_index_or numbers k (complex (pos 0) (pos 0))

abbrev pub plus : Complex → Complex → Complex
plus a b = complex (a.re +ℤ b.re) (a.im +ℤ b.im)

-- n times a number
abbrev pub scaled : ℕ → Complex → Complex
scaled n a = complex (pos n *ℤ a.re) (pos n *ℤ a.im)

abbrev pub times : Complex → Complex → Complex
times a b = complex (a.re *ℤ b.re -ℤ a.im *ℤ b.im) (a.im *ℤ b.re +ℤ a.re *ℤ b.im)

abbrev pub conjugate : Complex → Complex
conjugate a = complex a.re (neg_ℤ a.im)

-- a number times the conjugate of another
abbrev pub times_conjugate : Complex → Complex → Complex
times_conjugate a b = complex (a.re *ℤ b.re +ℤ a.im *ℤ b.im) (a.im *ℤ b.re -ℤ a.re *ℤ b.im)

-- the squared size
abbrev pub energy : Complex → ℕ
energy a = unsigned_abs a.re * unsigned_abs a.re + unsigned_abs a.im * unsigned_abs a.im

-- a whole number divided by n, to the nearest whole number, halves up
unfoldable pub nearest : ℤ → ℕ → ℤ
nearest x n = int_div_euclid (x +ℤ pos (n / 2)) (pos n)

-- both parts divided by n
abbrev pub over : ℕ → Complex → Complex
over n a = complex (nearest a.re n) (nearest a.im n)

-- the terms at n places, from a place on, summed
unfoldable pub sum_from : (ℕ → Complex) → ℕ → ℕ → Complex
sum_from f at zero = complex (pos 0) (pos 0)
sum_from f at (suc n) = plus (sum_from f at n) (f (at + n))

-- the whole part of the square root
unfoldable pub root : ℕ → ℕ
root zero = 0
root (suc n) = if nat_le ((root n + 1) * (root n + 1)) (suc n) then root n + 1 else root n

-- neither part is larger than a bound
pub record IsWithin (most : ℕ) (a : Complex) : Type 0 where
  pub re : unsigned_abs a.re ≤ most
  pub im : unsigned_abs a.im ≤ most
