-- Multiplication of polynomials over two elements, written as numbers, modulo x^m + low (EN 302 307-1, 5.3.1).
use Rattle.std.specs.Prelude.{ℕ, zero, suc, ◌≡◌, ◌+◌, ◌-◌, ◌*◌, ◌/◌, ◌%◌, ◌^◌, ◌<◌, ◌≤◌, bit_xor, refl}
use Rattle.std.proofs.Common.{sym, ◌∙◌, ap, ap₂, arith, add-zero}
use Rattle.std.proofs.Math.Nat.{mod-lt, mod-eq_of_lt, div-eq_of_lt, pow-suc}
use lib.Pow.{pow_mono, pow_pos}
use Rattle.std.proofs.lemmas.Nat.{xor_comm, xor_lt, xor_shr, xor_mod, xor_block}
use lib.Bits.{xor_assoc, xor_self, xor_zero_r, xor_shifted}

-- `x * a`: shift one place up, and subtract x^m + low if x^m appears
abbrev pub times_x : ℕ → ℕ → ℕ → ℕ
times_x m low a = bit_xor (a * 2 % 2 ^ m) (a / 2 ^ (m - 1) % 2 * low)

-- the sum of x^i * v for the ones among the k lowest digits i of a
abbrev pub act : ℕ → ℕ → ℕ → ℕ → ℕ → ℕ
act m low zero a v = 0
act m low (suc k) a v = bit_xor (a % 2 * v) (times_x m low (act m low k (a / 2) v))

-- the product of two polynomials over {0, 1}, written as numbers, modulo x^m + low
unfoldable pub times : ℕ → ℕ → ℕ → ℕ → ℕ
times m low a b = act m low m a b

pub swap_inner : (a b c d : ℕ) → bit_xor (bit_xor a b) (bit_xor c d) ≡ bit_xor (bit_xor a c) (bit_xor b d)
swap_inner a b c d =
    xor_assoc a b (bit_xor c d)
    ∙ ap (bit_xor a) (sym (xor_assoc b c d) ∙ ap (λ x. bit_xor x d) (xor_comm b c) ∙ xor_assoc c b d)
    ∙ sym (xor_assoc a c (bit_xor b d))

pub xor_double : (a b : ℕ) → bit_xor (a * 2) (b * 2) ≡ bit_xor a b * 2
xor_double a b =
    ap₂ bit_xor (sym (add-zero (a * 2))) (sym (add-zero (b * 2)))
    ∙ xor_block 1 a b 0 0 (omega arith) (omega arith) ∙ add-zero (bit_xor a b * 2)

pub digit-times : (d e v : ℕ) → d < 2 → e < 2 → bit_xor d e * v ≡ bit_xor (d * v) (e * v)
digit-times zero e v hd he = let z : 0 * v ≡ 0 = omega arith in sym (ap (λ x. bit_xor x (e * v)) z)
digit-times (suc zero) zero v hd he = let z : 0 * v ≡ 0 = omega arith in sym (ap (bit_xor (1 * v)) z ∙ xor_zero_r (1 * v))
digit-times (suc zero) (suc zero) v hd he = let z : 0 ≡ 0 * v = omega arith in sym (xor_self (1 * v) ∙ z)
digit-times (suc zero) (suc (suc e)) v hd he = absurd (omega arith)
digit-times (suc (suc d)) e v hd he = absurd (omega arith)

pub digit-xor : (d v w : ℕ) → d < 2 → d * bit_xor v w ≡ bit_xor (d * v) (d * w)
digit-xor zero v w hd =
    let z : (n : ℕ) → 0 * n ≡ 0 = λ n. omega arith in
    z (bit_xor v w) ∙ sym (ap₂ bit_xor (z v) (z w))
digit-xor (suc zero) v w hd =
    let z : (n : ℕ) → 1 * n ≡ n = λ n. omega arith in
    z (bit_xor v w) ∙ sym (ap₂ bit_xor (z v) (z w))
digit-xor (suc (suc d)) v w hd = absurd (omega arith)

pub below-two : (a : ℕ) → a % 2 < 2
below-two a = mod-lt a (omega arith)

module _ (m low : ℕ) where
  pub times_x-xor : (a b : ℕ) → times_x m low (bit_xor a b) ≡ bit_xor (times_x m low a) (times_x m low b)
  times_x-xor a b =
      ap₂ bit_xor
      (ap (λ x. x % 2 ^ m) (sym (xor_double a b)) ∙ xor_mod (a * 2) (b * 2) m)
      (ap (λ x. x % 2 * low) (xor_shr a b (m - 1))
      ∙ ap (λ x. x * low) (xor_mod (a / 2 ^ (m - 1)) (b / 2 ^ (m - 1)) 1)
      ∙ digit-times (a / 2 ^ (m - 1) % 2) (b / 2 ^ (m - 1) % 2) low (below-two _) (below-two _))
      ∙ swap_inner (a * 2 % 2 ^ m) (b * 2 % 2 ^ m) _ _

  pub times_x-zero : times_x m low 0 ≡ 0
  times_x-zero = times_x-xor 0 0 ∙ xor_self (times_x m low 0)

  pub act-xor : (k a v w : ℕ) → act m low k a (bit_xor v w) ≡ bit_xor (act m low k a v) (act m low k a w)
  act-xor zero a v w = refl
  act-xor (suc k) a v w =
      ap₂ bit_xor (digit-xor (a % 2) v w (below-two a))
      (ap (times_x m low) (act-xor k (a / 2) v w) ∙ times_x-xor (act m low k (a / 2) v) (act m low k (a / 2) w))
      ∙ swap_inner (a % 2 * v) (a % 2 * w) _ _

  pub act-zero : (k a : ℕ) → act m low k a 0 ≡ 0
  act-zero k a = act-xor k a 0 0 ∙ xor_self (act m low k a 0)

  pub act-sum : (k a b v : ℕ) → act m low k (bit_xor a b) v ≡ bit_xor (act m low k a v) (act m low k b v)
  act-sum zero a b v = refl
  act-sum (suc k) a b v =
      ap₂ bit_xor
      (ap (λ x. x * v) (xor_mod a b 1) ∙ digit-times (a % 2) (b % 2) v (below-two a) (below-two b))
      (ap (λ x. times_x m low (act m low k x v)) (xor_shr a b 1)
      ∙ ap (times_x m low) (act-sum k (a / 2) (b / 2) v)
      ∙ times_x-xor (act m low k (a / 2) v) (act m low k (b / 2) v))
      ∙ swap_inner (a % 2 * v) (b % 2 * v) _ _

  times_x-digit : (d v : ℕ) → d < 2 → times_x m low (d * v) ≡ d * times_x m low v
  times_x-digit zero v hd =
      let z : (n : ℕ) → 0 * n ≡ 0 = λ n. omega arith in
      ap (times_x m low) (z v) ∙ times_x-zero ∙ sym (z (times_x m low v))
  times_x-digit (suc zero) v hd =
      let z : (n : ℕ) → 1 * n ≡ n = λ n. omega arith in
      ap (times_x m low) (z v) ∙ sym (z (times_x m low v))
  times_x-digit (suc (suc d)) v hd = absurd (omega arith)

  -- an action commutes with `x`
  pub act-times_x : (k a v : ℕ) → act m low k a (times_x m low v) ≡ times_x m low (act m low k a v)
  act-times_x zero a v = sym times_x-zero
  act-times_x (suc k) a v =
      ap₂ bit_xor (sym (times_x-digit (a % 2) v (below-two a))) (ap (times_x m low) (act-times_x k (a / 2) v))
      ∙ sym (times_x-xor (a % 2 * v) (times_x m low (act m low k (a / 2) v)))

  act-digit : (k a d v : ℕ) → d < 2 → act m low k a (d * v) ≡ d * act m low k a v
  act-digit k a zero v hd =
      let z : (n : ℕ) → 0 * n ≡ 0 = λ n. omega arith in
      ap (act m low k a) (z v) ∙ act-zero k a ∙ sym (z (act m low k a v))
  act-digit k a (suc zero) v hd =
      let z : (n : ℕ) → 1 * n ≡ n = λ n. omega arith in
      ap (act m low k a) (z v) ∙ sym (z (act m low k a v))
  act-digit k a (suc (suc d)) v hd = absurd (omega arith)

  -- two actions commute
  pub act-act : (k j a b v : ℕ) → act m low k a (act m low j b v) ≡ act m low j b (act m low k a v)
  act-act zero j a b v = sym (act-zero j b)
  act-act (suc k) j a b v =
      ap₂ bit_xor (sym (act-digit j b (a % 2) v (below-two a)))
      (ap (times_x m low) (act-act k j (a / 2) b v) ∙ sym (act-times_x j b (act m low k (a / 2) v)))
      ∙ sym (act-xor j b (a % 2 * v) (times_x m low (act m low k (a / 2) v)))

pub halves : (a : ℕ) → a / 2 * 2 + a % 2 ≡ a
halves a = omega arith

pub xor_shift : (a d : ℕ) → d < 2 → bit_xor d (a * 2) ≡ a * 2 + d
xor_shift a d h = xor_comm d (a * 2) ∙ xor_shifted a 1 d h

pub half-below : (k a : ℕ) → a < 2 ^ suc k → a / 2 < 2 ^ k
half-below k a h = let e : 2 ^ suc k ≡ 2 ^ k * 2 = pow-suc 2 k in omega arith

digit-one : (d : ℕ) → d * 1 ≡ d
digit-one d = omega arith

module _ (m low : ℕ) (positive : 0 < m) where
  top_power : 2 ^ (m - 1) * 2 ≡ 2 ^ m
  top_power = let e : suc (m - 1) ≡ m = omega arith in sym (pow-suc 2 (m - 1)) ∙ ap (λ x. 2 ^ x) e

  pub times_x-small : (a : ℕ) → a < 2 ^ (m - 1) → times_x m low a ≡ a * 2
  times_x-small a h =
      let t = top_power in
      let e : a * 2 < 2 ^ m = omega arith in
      let z : 0 % 2 * low ≡ 0 = omega arith in
      ap₂ bit_xor (mod-eq_of_lt e) (ap (λ x. x % 2 * low) (div-eq_of_lt h) ∙ z) ∙ xor_zero_r (a * 2)

  -- what an action makes of 1 is the number itself
  pub act-one : (k a : ℕ) → k ≤ m → a < 2 ^ k → act m low k a 1 ≡ a
  act-one zero a hk ha = omega arith
  act-one (suc k) a hk ha =
      let hk' : k ≤ m = omega arith in
      let h2 : a / 2 < 2 ^ k = half-below k a ha in
      let up : 2 ^ k ≤ 2 ^ (m - 1) = pow_mono (omega arith) in
      let h3 : a / 2 < 2 ^ (m - 1) = omega arith in
      ap₂ bit_xor (digit-one (a % 2)) (ap (times_x m low) (act-one k (a / 2) hk' h2) ∙ times_x-small (a / 2) h3)
      ∙ xor_shift (a / 2) (a % 2) (below-two a) ∙ halves a

  module _ (low_fits : low < 2 ^ m) where
    digit-below : (d v : ℕ) → d < 2 → v < 2 ^ m → d * v < 2 ^ m
    digit-below zero v hd hv = omega arith
    digit-below (suc zero) v hd hv = omega arith
    digit-below (suc (suc d)) v hd hv = absurd (omega arith)

    pub times_x-below : (a : ℕ) → times_x m low a < 2 ^ m
    times_x-below a = xor_lt m _ _ (mod-lt (a * 2) (pow_pos m)) (digit-below _ low (below-two _) low_fits)

    pub act-below : (k a v : ℕ) → v < 2 ^ m → act m low k a v < 2 ^ m
    act-below zero a v hv = pow_pos m
    act-below (suc k) a v hv = xor_lt m _ _ (digit-below _ v (below-two a) hv) (times_x-below _)

  pub times-one : (a : ℕ) → a < 2 ^ m → times m low a 1 ≡ a
  unfolding times
  times-one a h = act-one m a (omega arith) h

  pub times_comm : (a b : ℕ) → a < 2 ^ m → b < 2 ^ m → times m low a b ≡ times m low b a
  unfolding times
  times_comm a b ha hb =
      ap (act m low m a) (sym (times-one b hb)) ∙ act-act m low m m a b 1 ∙ ap (act m low m b) (times-one a ha)

  -- a product's action is the actions, one after the other
  pub times-act : (a b v : ℕ) → a < 2 ^ m → b < 2 ^ m → v < 2 ^ m → low < 2 ^ m
      → times m low (times m low a b) v ≡ times m low a (times m low b v)
  unfolding times
  times-act a b v ha hb hv hl =
      times_comm (times m low a b) v (act-below hl m a b hb) hv
      ∙ act-act m low m m v a b
      ∙ ap (act m low m a) (times_comm v b hv hb)

  pub times-xor : (a b c : ℕ) → times m low a (bit_xor b c) ≡ bit_xor (times m low a b) (times m low a c)
  unfolding times
  times-xor a b c = act-xor m low m a b c
