-- Sums of symbols (own).
use Rattle.std.specs.Prelude.{ℕ, zero, suc, ◌+◌, ◌*◌, ◌==◌, Bool, ℤ, pos, neg_ℤ, ◌+ℤ◌, unsigned_abs, if◌then◌else◌}
use Rattle.s2_mode.specs.declared.symbols.Symbol.{Symbol}
use Rattle.s2_scan.specs.declared.sums.Sum.{Sum}

-- a sum of these components
abbrev pub sum_of : ℤ → ℤ → Sum
sum_of i q = record { i = i; q = q }

-- the sum of no symbol
abbrev pub no_sum : Sum
no_sum = sum_of (pos 0) (pos 0)

-- two sums together
abbrev pub plus : Sum → Sum → Sum
plus a b = sum_of (a.i +ℤ b.i) (a.q +ℤ b.q)

-- the sum of the first n of these
unfoldable pub sum_below : (ℕ → Sum) → ℕ → Sum
sum_below f zero = no_sum
sum_below f (suc n) = plus (sum_below f n) (f n)

-- a sum that is rotated back by quarters: by one (Q, -I), by two (-I, -Q), by three (-Q, I)
abbrev pub turned_back : ℕ → Sum → Sum
turned_back n s =
    if n == 0
    then s
    else (if n == 1 then sum_of s.q (neg_ℤ s.i) else (if n == 2 then sum_of (neg_ℤ s.i) (neg_ℤ s.q) else sum_of (neg_ℤ s.q) s.i))

-- I * I + Q * Q
abbrev pub energy : Sum → ℕ
energy s = unsigned_abs s.i * unsigned_abs s.i + unsigned_abs s.q * unsigned_abs s.q

-- a symbol, conjugated or not
abbrev pub conjugated_if : Bool → Symbol → Sum
conjugated_if conjugate s = sum_of s.i (if conjugate then neg_ℤ s.q else s.q)
