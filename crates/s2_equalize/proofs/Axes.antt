-- Numbers on the axes, which are gains that turn by quarters.
use Rattle.std.proofs.Common.{◌≡◌, ℕ, zero, suc, ◌+◌, ◌-◌, ◌*◌, ◌≤◌, ◌<◌, Bool, true, false, ℤ, pos, negsuc, ◌+ℤ◌, ◌-ℤ◌, ◌*ℤ◌, neg_ℤ, unsigned_abs, refl, ap, ap₂, ◌∙◌, sym, arith}
use Rattle.std.proofs.lemmas.Int.{ints, clamps}
use lib.IntN.{*ℤ-zero, zero-*ℤ, pos-*ℤ-pos, neg_ℤ-neg_ℤ}
use Rattle.s2_mode.specs.declared.symbols.Symbol.{Symbol}
use Rattle.s2_mode.specs.Symbols.{symbol}
use Rattle.s2_scramble.specs.Rotations.{rotated}
use Rattle.s2_equalize.specs.declared.complex.Complex.{Complex}
use Rattle.s2_equalize.specs.Complex.{complex, nearest, number_of, over, plus, scaled, sum_from, times, times_conjugate}
use Rattle.s2_equalize.specs.Gains.{no_turn}
use Rattle.s2_equalize.specs.Laws.{arrived}
use Rattle.s2_equalize.proofs.Exact.{multiple_near, near_neg, near_pos, negative_times, times_negative}

-- a number turned by quarters
abbrev pub quarter : ℕ → ℤ → ℤ → Complex
quarter zero x y = complex x y
quarter (suc zero) x y = complex (neg_ℤ y) x
quarter (suc (suc zero)) x y = complex (neg_ℤ x) (neg_ℤ y)
quarter _ x y = complex y (neg_ℤ x)

-- n, turned by quarters
abbrev pub axis : ℕ → ℕ → Complex
axis zero n = complex (pos n) (pos 0)
axis (suc zero) n = complex (pos 0) (pos n)
axis (suc (suc zero)) n = complex (neg_ℤ (pos n)) (pos 0)
axis _ n = complex (pos 0) (neg_ℤ (pos n))

-- n, turned back
abbrev pub axis_back : ℕ → ℕ → Complex
axis_back zero n = complex (pos n) (pos 0)
axis_back (suc zero) n = complex (pos 0) (neg_ℤ (pos n))
axis_back (suc (suc zero)) n = complex (neg_ℤ (pos n)) (pos 0)
axis_back _ n = complex (pos 0) (pos n)

-- ---- what arrives

pub arrived_number : (gain q : ℕ) (s : Symbol) → unsigned_abs (pos gain *ℤ s.i) ≤ 32767 → unsigned_abs (pos gain *ℤ s.q) ≤ 32767
    → number_of (arrived gain q s) ≡ quarter q (pos gain *ℤ s.i) (pos gain *ℤ s.q)
arrived_number gain zero s i_fits q_fits = refl
arrived_number gain (suc zero) s i_fits q_fits = ap₂ complex (omega (arith, ints, clamps, q_fits)) refl
arrived_number gain (suc (suc zero)) s i_fits q_fits = ap₂ complex (omega (arith, ints, clamps, i_fits)) (omega (arith, ints, clamps, q_fits))
arrived_number gain (suc (suc (suc n))) s i_fits q_fits = ap₂ complex refl (omega (arith, ints, clamps, i_fits))

-- a component of a known symbol
abbrev pub signed : Bool → ℕ → ℤ
signed false n = pos n
signed true n = neg_ℤ (pos n)

-- the correlation of a known symbol that arrives
pub corner : (q p : ℕ) (b c : Bool) → times_conjugate (quarter q (signed b p) (signed c p)) (complex (signed b 700) (signed c 700)) ≡ axis q (1400 * p)
corner zero p false false = ap₂ complex (omega (arith, ints)) (omega (arith, ints))
corner zero p false true = ap₂ complex (omega (arith, ints)) (omega (arith, ints))
corner zero p true false = ap₂ complex (omega (arith, ints)) (omega (arith, ints))
corner zero p true true = ap₂ complex (omega (arith, ints)) (omega (arith, ints))
corner (suc zero) p false false = ap₂ complex (omega (arith, ints)) (omega (arith, ints))
corner (suc zero) p false true = ap₂ complex (omega (arith, ints)) (omega (arith, ints))
corner (suc zero) p true false = ap₂ complex (omega (arith, ints)) (omega (arith, ints))
corner (suc zero) p true true = ap₂ complex (omega (arith, ints)) (omega (arith, ints))
corner (suc (suc zero)) p false false = ap₂ complex (omega (arith, ints)) (omega (arith, ints))
corner (suc (suc zero)) p false true = ap₂ complex (omega (arith, ints)) (omega (arith, ints))
corner (suc (suc zero)) p true false = ap₂ complex (omega (arith, ints)) (omega (arith, ints))
corner (suc (suc zero)) p true true = ap₂ complex (omega (arith, ints)) (omega (arith, ints))
corner (suc (suc (suc n))) p false false = ap₂ complex (omega (arith, ints)) (omega (arith, ints))
corner (suc (suc (suc n))) p false true = ap₂ complex (omega (arith, ints)) (omega (arith, ints))
corner (suc (suc (suc n))) p true false = ap₂ complex (omega (arith, ints)) (omega (arith, ints))
corner (suc (suc (suc n))) p true true = ap₂ complex (omega (arith, ints)) (omega (arith, ints))

-- ---- sums, multiples and quotients

none_axis : (q : ℕ) → complex (pos 0) (pos 0) ≡ axis q 0
none_axis zero = refl
none_axis (suc zero) = refl
none_axis (suc (suc zero)) = refl
none_axis (suc (suc (suc n))) = refl

plus_axis : (q m n : ℕ) → plus (axis q m) (axis q n) ≡ axis q (m + n)
plus_axis zero m n = ap₂ complex (omega (arith, ints)) refl
plus_axis (suc zero) m n = ap₂ complex refl (omega (arith, ints))
plus_axis (suc (suc zero)) m n = ap₂ complex (omega (arith, ints)) refl
plus_axis (suc (suc (suc k))) m n = ap₂ complex refl (omega (arith, ints))

pub negative_multiple : (k n : ℕ) → pos k *ℤ neg_ℤ (pos n) ≡ neg_ℤ (pos (k * n))
negative_multiple k n = times_negative (pos k) (pos n) ∙ ap neg_ℤ (pos-*ℤ-pos k n)

pub scaled_axis : (q k n : ℕ) → scaled k (axis q n) ≡ axis q (k * n)
scaled_axis zero k n = ap₂ complex (pos-*ℤ-pos k n) (*ℤ-zero (pos k))
scaled_axis (suc zero) k n = ap₂ complex (*ℤ-zero (pos k)) (pos-*ℤ-pos k n)
scaled_axis (suc (suc zero)) k n = ap₂ complex (negative_multiple k n) (*ℤ-zero (pos k))
scaled_axis (suc (suc (suc j))) k n = ap₂ complex (*ℤ-zero (pos k)) (negative_multiple k n)

pub nearest_none : (n : ℕ) → 0 < n → nearest (pos 0) n ≡ pos 0
nearest_none n some = let none : 0 * n ≡ 0 = omega arith in ap (λ (k : ℕ). nearest (pos k) n) (sym none) ∙ near_pos (0 * n) n 0 (multiple_near 0 n some)

pub over_axis : (q m n : ℕ) → 0 < n → over n (axis q (m * n)) ≡ axis q m
over_axis zero m n some = ap₂ complex (near_pos (m * n) n m (multiple_near m n some)) (nearest_none n some)
over_axis (suc zero) m n some = ap₂ complex (nearest_none n some) (near_pos (m * n) n m (multiple_near m n some))
over_axis (suc (suc zero)) m n some = ap₂ complex (near_neg (m * n) n m (multiple_near m n some)) (nearest_none n some)
over_axis (suc (suc (suc k))) m n some = ap₂ complex (nearest_none n some) (near_neg (m * n) n m (multiple_near m n some))

-- terms on one axis
pub sum_axis : (q : ℕ) (f : ℕ → Complex) (size : ℕ → ℕ) (at n : ℕ) (total : ℕ → ℕ) → total 0 ≡ 0 → ((k : ℕ) → total (suc k) ≡ total k + size (at + k))
    → ((k : ℕ) → k < n → f (at + k) ≡ axis q (size (at + k))) → sum_from f at n ≡ axis q (total n)
unfolding sum_from
sum_axis q f size at zero total none more each = none_axis q ∙ ap (axis q) (sym none)
sum_axis q f size at (suc n) total none more each =
    ap₂ plus (sum_axis q f size at n total none more (λ k lt. each k (omega (arith, lt)))) (each n (omega arith))
    ∙ (plus_axis q (total n) (size (at + n)) ∙ ap (axis q) (sym (more n)))

-- ---- products

square_negative : (n : ℕ) → neg_ℤ (pos n) *ℤ neg_ℤ (pos n) ≡ pos (n * n)
square_negative n =
    times_negative (neg_ℤ (pos n)) (pos n) ∙ (ap neg_ℤ (negative_times (pos n) (pos n) ∙ ap neg_ℤ (pos-*ℤ-pos n n)) ∙ neg_ℤ-neg_ℤ (pos (n * n)))

pub same_axis : (q g : ℕ) → times_conjugate (axis q g) (axis q g) ≡ axis 0 (g * g)
same_axis zero g = ap₂ complex (omega (arith, ints)) (omega (arith, ints))
same_axis (suc zero) g = ap₂ complex (omega (arith, ints)) (omega (arith, ints))
same_axis (suc (suc zero)) g = ap₂ complex (omega (arith, ints, square_negative g)) (omega (arith, ints, *ℤ-zero (neg_ℤ (pos g)), zero-*ℤ (neg_ℤ (pos g))))
same_axis (suc (suc (suc n))) g = ap₂ complex (omega (arith, ints, square_negative g)) (omega (arith, ints, *ℤ-zero (neg_ℤ (pos g)), zero-*ℤ (neg_ℤ (pos g))))

pub turn_none : (q g : ℕ) → times (axis q g) no_turn ≡ axis q (32768 * g)
turn_none zero g = ap₂ complex (omega (arith, ints)) (omega (arith, ints))
turn_none (suc zero) g = ap₂ complex (omega (arith, ints)) (omega (arith, ints))
turn_none (suc (suc zero)) g = ap₂ complex (omega (arith, ints)) (omega (arith, ints))
turn_none (suc (suc (suc n))) g = ap₂ complex (omega (arith, ints)) (omega (arith, ints))

pub turn_none_back : (q g : ℕ) → times_conjugate (axis q g) no_turn ≡ axis q (32768 * g)
turn_none_back zero g = ap₂ complex (omega (arith, ints)) (omega (arith, ints))
turn_none_back (suc zero) g = ap₂ complex (omega (arith, ints)) (omega (arith, ints))
turn_none_back (suc (suc zero)) g = ap₂ complex (omega (arith, ints)) (omega (arith, ints))
turn_none_back (suc (suc (suc n))) g = ap₂ complex (omega (arith, ints)) (omega (arith, ints))

-- a number that was turned by quarters, turned back by a factor
pub factor_back : (q w : ℕ) (x y : ℤ) → times (quarter q x y) (axis_back q w) ≡ complex (x *ℤ pos w) (y *ℤ pos w)
factor_back zero w x y = ap₂ complex (omega (arith, ints, *ℤ-zero y)) (omega (arith, ints, *ℤ-zero x))
factor_back (suc zero) w x y =
    ap₂ complex (omega (arith, ints, *ℤ-zero (neg_ℤ y), times_negative x (pos w)))
    (omega (arith, ints, *ℤ-zero x, times_negative (neg_ℤ y) (pos w), negative_times y (pos w)))
factor_back (suc (suc zero)) w x y =
    ap₂ complex (omega (arith, ints, *ℤ-zero (neg_ℤ y), times_negative (neg_ℤ x) (pos w), negative_times x (pos w)))
    (omega (arith, ints, *ℤ-zero (neg_ℤ x), times_negative (neg_ℤ y) (pos w), negative_times y (pos w)))
factor_back (suc (suc (suc n))) w x y =
    ap₂ complex (omega (arith, ints, *ℤ-zero y, negative_times x (pos w))) (omega (arith, ints, *ℤ-zero (neg_ℤ x)))
