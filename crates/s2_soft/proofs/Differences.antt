-- Words of 32 bits that stand for inner products, and differences of the nearest ones.
use Rattle.std.proofs.Common.{◌≡◌, ◌≢◌, ℕ, ◌+◌, ◌-◌, ◌/◌, ◌%◌, ◌<◌, ◌≤◌, min, max, cond, eqb, true, false, ℤ, pos, neg_ℤ, ◌+ℤ◌, ◌-ℤ◌, ◌*ℤ◌, ap, sym, ◌∙◌, refl, inl, inr, arith, w16, lt-ltb, le-ltb}
use Rattle.std.specs.Int.{int_max}
use Rattle.std.proofs.lemmas.Bool.{cases_lt, eq-eqb, ne_eqb}
use Rattle.std.proofs.lemmas.Int.{ints, clamps}
use Rattle.s2_bits.specs.Lanes16.{signed16, minus16}
use Rattle.s2_bits.specs.Lanes32.{plus32, minus32}
use Rattle.s2_bits.proofs.Words16.{word_low, negative_word}
use Rattle.s2_mode.specs.Limits.{max_soft}
use Rattle.s2_soft.specs.Divisors.{IsDivisor}
use Rattle.s2_soft.specs.Soft.{quantized}
use Rattle.s2_soft.specs.Lanes.{number, times32, magnitude32}
use Rattle.s2_soft.specs.Closed.{along, across, axis, nearest, IsInner, IsNearest, first_difference, second_difference, third_difference}
use Rattle.s2_soft.proofs.DivisorLemmas.{by_divisors}
use Rattle.s2_soft.proofs.Sizes.{along_inner, across_inner, axis_inner, neg_inner, nearest_is}
use mir.Val.{SFits}

number_low : (v : ℕ) → v < 2147483648 → number v ≡ pos v
number_low v low = let test = lt-ltb v 2147483648 low in rw test refl

number_high : (v : ℕ) → 2147483648 ≤ v → v < 4294967296 → number v ≡ neg_ℤ (pos (4294967296 - v))
number_high v high low = let test = le-ltb v 2147483648 high in rw test (omega (arith, ints))

-- a word, raised so that it has no sign
abbrev raised : ℕ → ℕ
raised w = (w + 2147483648) % 4294967296

raised_number : (w : ℕ) → w < 4294967296 → pos (raised w) ≡ number w +ℤ pos 2147483648
raised_number w fits = elim (cases_lt w 2147483648) [
  | inl lt ↦ let is = number_low w lt in omega (arith, ints, is, lt)
  | inr le ↦ let is = number_high w le fits in omega (arith, ints, is, le, fits)
]

-- the word of an inner product
pub record Holds (w : ℕ) (z : ℤ) : Type 0 where
  pub fits : w < 4294967296
  pub is : pos (raised w) ≡ z +ℤ pos 2147483648
  pub inner : IsInner z

pub between_holds : (w : ℕ) → w < 4294967296 → SFits w16 (number w) → Holds (times32 w 1400) (pos 1400 *ℤ number w)
between_holds w fits small =
    let at = raised_number w fits in
    record { fits = omega arith; is = omega (arith, ints, small, fits, at); inner = omega (arith, ints, small) }

pub axis_holds : (w : ℕ) → w < 4294967296 → SFits w16 (number w) → Holds (times32 w 1980) (axis (number w))
axis_holds w fits small =
    let at = raised_number w fits in
    record { fits = omega arith; is = omega (arith, ints, small, fits, at); inner = axis_inner (number w) small }

sum_holds : (v w : ℕ) (y z u : ℤ) → Holds v y → Holds w z → u ≡ y +ℤ z → IsInner u → Holds (plus32 v w) u
sum_holds v w y z u h g sum inner = record { fits = omega arith; is = omega (arith, ints, h.is, g.is, h.fits, g.fits, sum, inner); inner = inner }

difference_holds : (v w : ℕ) (y z u : ℤ) → Holds v y → Holds w z → u ≡ y -ℤ z → IsInner u → Holds (minus32 v w) u
difference_holds v w y z u h g sum inner = record { fits = omega arith; is = omega (arith, ints, h.is, g.is, h.fits, g.fits, sum, inner); inner = inner }

size_is : (w : ℕ) (z : ℤ) → Holds w z → pos (magnitude32 w) ≡ int_max z (neg_ℤ z)
size_is w z h = omega (arith, ints, clamps, h.is, h.fits, h.inner)

raised_is : (w c : ℕ) (z : ℤ) → Holds w z → 100000000 ≤ c → c ≤ 1000000000 → pos (plus32 w c) ≡ z +ℤ pos c
raised_is w c z h low high = omega (arith, ints, h.is, h.fits, h.inner)

fallen_is : (w c : ℕ) (z : ℤ) → Holds w z → 100000000 ≤ c → c ≤ 1000000000 → pos (minus32 c w) ≡ pos c -ℤ z
fallen_is w c z h low high = omega (arith, ints, h.is, h.fits, h.inner)

difference_is : (v w : ℕ) → v ≤ 1000000000 → w ≤ 1000000000 → number (minus32 v w) ≡ pos v -ℤ pos w
difference_is v w low high =
    let fits : minus32 v w < 4294967296 = omega arith in
    let at = raised_number (minus32 v w) fits in
    omega (arith, ints, at, low, high)

-- the nearest of points that lie opposite to each other
both_ways : (u v : ℕ) (a b : ℤ) → pos u ≡ int_max a (neg_ℤ a) → pos v ≡ int_max b (neg_ℤ b) → IsInner a → pos (max (plus32 u 100) v) ≡ nearest a (neg_ℤ a) b (neg_ℤ b)
both_ways u v a b h g inner = omega (arith, ints, clamps, h, g, inner)

-- the nearest of four points, all raised
raised_nearest : (u v w : ℕ) (a b x y : ℤ) → pos u ≡ int_max a b +ℤ pos 134217828 → pos v ≡ x +ℤ pos 134217728 → pos w ≡ y +ℤ pos 134217728
    → pos (max u (max v w)) ≡ nearest a b x y +ℤ pos 134217728
raised_nearest u v w a b x y h g f = omega (arith, ints, clamps, h, g, f)

small_nearest : (v : ℕ) (z : ℤ) → pos v ≡ z → IsNearest z → v ≤ 1000000000
small_nearest v z is near = omega (arith, ints, is, near)

-- the difference of raised words
raised_difference : (v w : ℕ) (y z : ℤ) → pos v ≡ y +ℤ pos 134217728 → pos w ≡ z +ℤ pos 134217728 → IsNearest y → IsNearest z → number (minus32 v w) ≡ y -ℤ z
raised_difference v w y z h g near close =
    let low : v ≤ 1000000000 = omega (arith, ints, h, near) in
    let high : w ≤ 1000000000 = omega (arith, ints, g, close) in
    let is = difference_is v w low high in
    omega (arith, ints, is, h, g)

beside_low : (h : ℕ) (r : ℤ) → pos h ≡ int_max r (neg_ℤ r) +ℤ pos 134217828 → IsInner r → 100000000 ≤ h
beside_low h r is inner = omega (arith, ints, clamps, is, inner)

beside_high : (h : ℕ) (r : ℤ) → pos h ≡ int_max r (neg_ℤ r) +ℤ pos 134217828 → IsInner r → h ≤ 1000000000
beside_high h r is inner = omega (arith, ints, clamps, is, inner)

both_sides : (h : ℕ) (p r u v : ℤ) → pos h ≡ int_max r (neg_ℤ r) +ℤ pos 134217828 → u ≡ p +ℤ r → v ≡ p -ℤ r → p +ℤ pos h ≡ int_max u v +ℤ pos 134217828
both_sides h p r u v is first second = omega (arith, ints, clamps, is, first, second)

other_sides : (h : ℕ) (p r u v : ℤ) → pos h ≡ int_max r (neg_ℤ r) +ℤ pos 134217828 → u ≡ neg_ℤ (p +ℤ r) → v ≡ neg_ℤ (p -ℤ r) → pos h -ℤ p ≡ int_max u v +ℤ pos 134217828
other_sides h p r u v is first second = omega (arith, ints, clamps, is, first, second)

-- the words of what a symbol's components are multiplied by, and of the three differences
abbrev pub between : ℕ → ℕ
between w = times32 w 1400

abbrev pub on_axis : ℕ → ℕ
on_axis w = times32 w 1980

abbrev pub beside : ℕ → ℕ
beside w = plus32 (magnitude32 (between w)) 134217828

abbrev pub above : ℕ → ℕ
above w = plus32 (on_axis w) 134217728

abbrev pub below : ℕ → ℕ
below w = minus32 134217728 (on_axis w)

abbrev pub first_word : ℕ → ℕ → ℕ
first_word a b =
    minus32 (max (plus32 (magnitude32 (plus32 (between a) (between b))) 100) (magnitude32 (on_axis a)))
    (max (plus32 (magnitude32 (minus32 (between a) (between b))) 100) (magnitude32 (on_axis b)))

abbrev pub second_word : ℕ → ℕ → ℕ
second_word a b =
    minus32 (max (plus32 (between a) (beside b)) (max (above a) (above b)))
    (max (minus32 (beside b) (between a)) (max (below a) (below b)))

abbrev pub third_word : ℕ → ℕ → ℕ
third_word a b =
    minus32 (max (plus32 (between b) (beside a)) (max (below a) (above b)))
    (max (minus32 (beside a) (between b)) (max (above a) (below b)))

-- a word of a component of 16 bits
pub record IsComponent (w : ℕ) : Type 0 where
  pub fits : w < 4294967296
  pub small : SFits w16 (number w)

pub first_is : (a b : ℕ) → IsComponent a → IsComponent b → number (first_word a b) ≡ first_difference (number a) (number b)
first_is a b ca cb =
    let i = number a in
    let q = number b in
    let p = between_holds a ca.fits ca.small in
    let r = between_holds b cb.fits cb.small in
    let x = axis_holds a ca.fits ca.small in
    let y = axis_holds b cb.fits cb.small in
    let s = sum_holds (between a) (between b) (pos 1400 *ℤ i) (pos 1400 *ℤ q) (along i q) p r (omega (arith, ints)) (along_inner i q ca.small cb.small) in
    let d = difference_holds (between a) (between b) (pos 1400 *ℤ i) (pos 1400 *ℤ q) (across i q) p r (omega (arith, ints)) (across_inner i q ca.small cb.small) in
    let zero_is = both_ways _ _ (along i q) (axis i) (size_is _ _ s) (size_is _ _ x) s.inner in
    let one_is = both_ways _ _ (across i q) (axis q) (size_is _ _ d) (size_is _ _ y) d.inner in
    let zero_near = nearest_is _ _ _ _ s.inner (neg_inner _ s.inner) x.inner (neg_inner _ x.inner) in
    let one_near = nearest_is _ _ _ _ d.inner (neg_inner _ d.inner) y.inner (neg_inner _ y.inner) in
    difference_is _ _ (small_nearest _ _ zero_is zero_near) (small_nearest _ _ one_is one_near) ∙ (λ t. zero_is t -ℤ one_is t)

above_is : (a : ℕ) → IsComponent a → pos (above a) ≡ axis (number a) +ℤ pos 134217728
above_is a ca = raised_is (on_axis a) 134217728 (axis (number a)) (axis_holds a ca.fits ca.small) (omega arith) (omega arith)

below_is : (a : ℕ) → IsComponent a → pos (below a) ≡ neg_ℤ (axis (number a)) +ℤ pos 134217728
below_is a ca = fallen_is (on_axis a) 134217728 (axis (number a)) (axis_holds a ca.fits ca.small) (omega arith) (omega arith) ∙ omega (arith, ints)

beside_is : (b : ℕ) → IsComponent b → pos (beside b) ≡ int_max (pos 1400 *ℤ number b) (neg_ℤ (pos 1400 *ℤ number b)) +ℤ pos 134217828
beside_is b cb =
    let r = between_holds b cb.fits cb.small in
    let size = size_is _ _ r in
    omega (arith, ints, clamps, size, r.inner)

pub second_is : (a b : ℕ) → IsComponent a → IsComponent b → number (second_word a b) ≡ second_difference (number a) (number b)
second_is a b ca cb =
    let i = number a in
    let q = number b in
    let sa = along_inner i q ca.small cb.small in
    let sd = across_inner i q ca.small cb.small in
    let p = between_holds a ca.fits ca.small in
    let x = axis_holds a ca.fits ca.small in
    let y = axis_holds b cb.fits cb.small in
    let h = beside_is b cb in
    let r = between_holds b cb.fits cb.small in
    let low = beside_low (beside b) _ h r.inner in
    let high = beside_high (beside b) _ h r.inner in
    let up = raised_is (between a) (beside b) _ p low high in
    let down = fallen_is (between a) (beside b) _ p low high in
    let up_is : pos (plus32 (between a) (beside b)) ≡ int_max (along i q) (across i q) +ℤ pos 134217828 = up ∙ both_sides (beside b) (pos 1400 *ℤ i) (pos 1400 *ℤ q) (along i q) (across i q) h (omega (arith, ints)) (omega (arith, ints)) in
    let down_is : pos (minus32 (beside b) (between a)) ≡ int_max (neg_ℤ (along i q)) (neg_ℤ (across i q)) +ℤ pos 134217828 = down ∙ other_sides (beside b) (pos 1400 *ℤ i) (pos 1400 *ℤ q) (neg_ℤ (along i q)) (neg_ℤ (across i q)) h (omega (arith, ints)) (omega (arith, ints)) in
    let zero_is = raised_nearest _ _ _ (along i q) (across i q) (axis i) (axis q) up_is (above_is a ca) (above_is b cb) in
    let one_is = raised_nearest _ _ _ (neg_ℤ (along i q)) (neg_ℤ (across i q)) (neg_ℤ (axis i)) (neg_ℤ (axis q)) down_is (below_is a ca) (below_is b cb) in
    raised_difference _ _ _ _ zero_is one_is (nearest_is _ _ _ _ sa sd x.inner y.inner) (nearest_is _ _ _ _ (neg_inner _ sa) (neg_inner _ sd) (neg_inner _ x.inner) (neg_inner _ y.inner))

pub third_is : (a b : ℕ) → IsComponent a → IsComponent b → number (third_word a b) ≡ third_difference (number a) (number b)
third_is a b ca cb =
    let i = number a in
    let q = number b in
    let sa = along_inner i q ca.small cb.small in
    let sd = across_inner i q ca.small cb.small in
    let p = between_holds b cb.fits cb.small in
    let x = axis_holds a ca.fits ca.small in
    let y = axis_holds b cb.fits cb.small in
    let h = beside_is a ca in
    let r = between_holds a ca.fits ca.small in
    let low = beside_low (beside a) _ h r.inner in
    let high = beside_high (beside a) _ h r.inner in
    let up = raised_is (between b) (beside a) _ p low high in
    let down = fallen_is (between b) (beside a) _ p low high in
    let up_is : pos (plus32 (between b) (beside a)) ≡ int_max (along i q) (neg_ℤ (across i q)) +ℤ pos 134217828 = up ∙ both_sides (beside a) (pos 1400 *ℤ q) (pos 1400 *ℤ i) (along i q) (neg_ℤ (across i q)) h (omega (arith, ints)) (omega (arith, ints)) in
    let down_is : pos (minus32 (beside a) (between b)) ≡ int_max (neg_ℤ (along i q)) (across i q) +ℤ pos 134217828 = down ∙ other_sides (beside a) (pos 1400 *ℤ q) (pos 1400 *ℤ i) (neg_ℤ (along i q)) (across i q) h (omega (arith, ints)) (omega (arith, ints)) in
    let zero_is = raised_nearest _ _ _ (along i q) (neg_ℤ (across i q)) (neg_ℤ (axis i)) (axis q) up_is (below_is a ca) (above_is b cb) in
    let one_is = raised_nearest _ _ _ (neg_ℤ (along i q)) (across i q) (axis i) (neg_ℤ (axis q)) down_is (above_is a ca) (below_is b cb) in
    raised_difference _ _ _ _ zero_is one_is (nearest_is _ _ _ _ sa (neg_inner _ sd) (neg_inner _ x.inner) y.inner) (nearest_is _ _ _ _ (neg_inner _ sa) sd x.inner (neg_inner _ y.inner))

-- the word of 16 bits of the soft value of a difference
abbrev pub soft_size : ℕ → ℕ → ℕ
soft_size d x = min (magnitude32 x / d) max_soft

abbrev pub soft_word : ℕ → ℕ → ℕ
soft_word d x = cond (eqb (x / 2147483648) 1) (minus32 65536 (soft_size d x)) (soft_size d x) % 65536

positive_soft : (d : ℕ) → IsDivisor d → (x : ℕ) → pos (min (x / d) max_soft) ≡ quantized d (pos x)
positive_soft d known x =
    by_divisors (λ d. pos (min (x / d) max_soft) ≡ quantized d (pos x)) (omega (arith, ints, clamps)) (omega (arith, ints, clamps)) (omega (arith, ints, clamps)) (omega (arith, ints, clamps)) (omega (arith, ints, clamps)) d known

negative_soft : (d : ℕ) → IsDivisor d → (x : ℕ) → neg_ℤ (pos (min (x / d) max_soft)) ≡ quantized d (neg_ℤ (pos x))
negative_soft d known x =
    by_divisors (λ d. neg_ℤ (pos (min (x / d) max_soft)) ≡ quantized d (neg_ℤ (pos x))) (omega (arith, ints, clamps)) (omega (arith, ints, clamps)) (omega (arith, ints, clamps)) (omega (arith, ints, clamps)) (omega (arith, ints, clamps)) d known

-- a size that is held within the range
small : (q : ℕ) → min q max_soft < 32768
small q = omega arith

whole : (q : ℕ) → min q max_soft % 65536 ≡ min q max_soft
whole q = omega arith

opposite : (q : ℕ) → minus32 65536 (min q max_soft) % 65536 ≡ minus16 0 (min q max_soft)
opposite q = omega arith

pub soft_word_is : (d : ℕ) → IsDivisor d → (x : ℕ) → x < 4294967296 → signed16 (soft_word d x) ≡ quantized d (number x)
soft_word_is d known x fits =
    let q = magnitude32 x / d in
    elim (cases_lt x 2147483648) [
      | inl lt ↦ (
          let plain : x / 2147483648 ≢ 1 = omega arith in
          let test : eqb (x / 2147483648) 1 ≡ false = ne_eqb (x / 2147483648) 1 plain in
          let size : magnitude32 x ≡ x = omega arith in
          ap (λ b. signed16 (cond b (minus32 65536 (soft_size d x)) (soft_size d x) % 65536)) test
          ∙ ap signed16 (whole q)
          ∙ word_low (soft_size d x) (small q)
          ∙ ap (λ s. pos (min (s / d) max_soft)) size
          ∙ positive_soft d known x
          ∙ ap (quantized d) (sym (number_low x lt))
          )
      | inr le ↦ (
          let one : x / 2147483648 ≡ 1 = omega arith in
          let test : eqb (x / 2147483648) 1 ≡ true = eq-eqb (x / 2147483648) 1 one in
          let size : magnitude32 x ≡ 4294967296 - x = omega arith in
          ap (λ b. signed16 (cond b (minus32 65536 (soft_size d x)) (soft_size d x) % 65536)) test
          ∙ ap signed16 (opposite q)
          ∙ negative_word (soft_size d x) (small q)
          ∙ ap (λ s. neg_ℤ (pos (min (s / d) max_soft))) size
          ∙ negative_soft d known (4294967296 - x)
          ∙ ap (quantized d) (sym (number_high x le fits))
          )
    ]
