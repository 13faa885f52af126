-- The inverse in a binary field: each nonzero a has a * a^(2^m - 2) = 1, by three computed facts (EN 302 307-1, 5.3.1).
use Rattle.std.specs.Prelude.{ℕ, zero, suc, ◌≡◌, ◌≢◌, ◌-◌, ◌*◌, ◌/◌, ◌%◌, ◌^◌, ◌<◌, bit_xor, refl, Bool, true, ◌==◌, ◌&&◌, List, [], ◌∷◌}
use Rattle.std.proofs.Common.{sym, ◌∙◌, ap, ap₂, subst, arith}
use Rattle.std.proofs.Math.Nat.{pow-suc}
use Rattle.std.proofs.lemmas.Nat.{xor_shr, xor_mod}
use lib.Pow.{pow_pos}
use Rattle.std.proofs.lemmas.Bool.{and_parts, eqb-true}
use lib.Bits.{xor_assoc, xor_self, xor_zero_r}
use Rattle.s2_field.specs.Binary.{times, act-sum, act-below, times-one, times_comm, times-act, times-xor, half-below, xor_shift, halves, below-two, digit-times, swap_inner, xor_double}

abbrev pub IsAdditiveBelow : ℕ → (ℕ → ℕ) → Type 0
IsAdditiveBelow k f = (a b : ℕ) → a < 2 ^ k → b < 2 ^ k → f (bit_xor a b) ≡ bit_xor (f a) (f b)

-- f and g agree at each power of two below 2^k
abbrev pub agree_at_powers : ℕ → (ℕ → ℕ) → (ℕ → ℕ) → Bool
agree_at_powers zero f g = true
agree_at_powers (suc k) f g = (f 1 == g 1) && agree_at_powers k (λ x. f (x * 2)) (λ x. g (x * 2))

additive-zero : (k : ℕ) (f : ℕ → ℕ) → IsAdditiveBelow k f → f 0 ≡ 0
additive-zero k f hf = hf 0 0 (pow_pos k) (pow_pos k) ∙ xor_self (f 0)

doubled-below : (k a : ℕ) → a < 2 ^ k → a * 2 < 2 ^ suc k
doubled-below k a h = let e : 2 ^ suc k ≡ 2 ^ k * 2 = pow-suc 2 k in omega arith

digit-below-power : (k d : ℕ) → d < 2 → d < 2 ^ suc k
digit-below-power k d h =
    let e : 2 ^ suc k ≡ 2 ^ k * 2 = pow-suc 2 k in let q : 0 < 2 ^ k = pow_pos k in omega arith

additive-double : (k : ℕ) (f : ℕ → ℕ) → IsAdditiveBelow (suc k) f → IsAdditiveBelow k (λ x. f (x * 2))
additive-double k f hf a b ha hb =
    ap f (sym (xor_double a b)) ∙ hf (a * 2) (b * 2) (doubled-below k a ha) (doubled-below k b hb)

at-digit : (f g : ℕ → ℕ) → f 0 ≡ g 0 → f 1 ≡ g 1 → (d : ℕ) → d < 2 → f d ≡ g d
at-digit f g h0 h1 zero hd = h0
at-digit f g h0 h1 (suc zero) hd = h1
at-digit f g h0 h1 (suc (suc d)) hd = absurd (omega arith)

split-digit : (k : ℕ) (f : ℕ → ℕ) → IsAdditiveBelow (suc k) f → (a : ℕ) → a < 2 ^ suc k
    → f a ≡ bit_xor (f (a % 2)) (f (a / 2 * 2))
split-digit k f hf a ha =
    ap f (sym (xor_shift (a / 2) (a % 2) (below-two a) ∙ halves a))
    ∙ hf (a % 2) (a / 2 * 2) (digit-below-power k (a % 2) (below-two a)) (doubled-below k (a / 2) (half-below k a ha))

pub same_additive : (k : ℕ) (f g : ℕ → ℕ) → IsAdditiveBelow k f → IsAdditiveBelow k g → agree_at_powers k f g ≡ true
    → (a : ℕ) → a < 2 ^ k → f a ≡ g a
same_additive zero f g hf hg h a ha =
    let e : a ≡ 0 = omega arith in
    ap f e ∙ additive-zero zero f hf ∙ sym (ap g e ∙ additive-zero zero g hg)
same_additive (suc k) f g hf hg h a ha =
    let w = and_parts (f 1 == g 1) (agree_at_powers k (λ x. f (x * 2)) (λ x. g (x * 2))) h in
    let h0 : f 0 ≡ g 0 = additive-zero (suc k) f hf ∙ sym (additive-zero (suc k) g hg) in
    split-digit k f hf a ha
    ∙ ap₂ bit_xor (at-digit f g h0 (eqb-true (f 1) (g 1) w.0) (a % 2) (below-two a))
    (same_additive k (λ x. f (x * 2)) (λ x. g (x * 2)) (additive-double k f hf) (additive-double k g hg) w.1
    (a / 2) (half-below k a ha))
    ∙ sym (split-digit k g hg a ha)

-- a sum of entries, chosen by the digits of a
abbrev pub choose : List ℕ → ℕ → ℕ
choose [] a = 0
choose (c ∷ cs) a = bit_xor (a % 2 * c) (choose cs (a / 2))

pub choose-xor : (cs : List ℕ) (a b : ℕ) → choose cs (bit_xor a b) ≡ bit_xor (choose cs a) (choose cs b)
choose-xor [] a b = refl
choose-xor (c ∷ cs) a b =
    ap₂ bit_xor (ap (λ x. x * c) (xor_mod a b 1) ∙ digit-times (a % 2) (b % 2) c (below-two a) (below-two b))
    (ap (choose cs) (xor_shr a b 1) ∙ choose-xor cs (a / 2) (b / 2))
    ∙ swap_inner (a % 2 * c) (b % 2 * c) _ _

choose-zero : (cs : List ℕ) → choose cs 0 ≡ 0
choose-zero cs = choose-xor cs 0 0 ∙ xor_self (choose cs 0)

abbrev pub squared : ℕ → ℕ → ℕ → ℕ → ℕ
squared m low zero a = a
squared m low (suc k) a = squared m low k (times m low a a)

cancel_middle : (x y z : ℕ) → bit_xor (bit_xor x y) (bit_xor y z) ≡ bit_xor x z
cancel_middle x y z =
    xor_assoc x y (bit_xor y z) ∙ ap (bit_xor x) (sym (xor_assoc y y z) ∙ ap (λ v. bit_xor v z) (xor_self y))

xor-cancel : (a d : ℕ) → bit_xor a d ≡ 0 → a ≡ d
xor-cancel a d e =
    sym (xor_zero_r a) ∙ ap (bit_xor a) (sym (xor_self d)) ∙ sym (xor_assoc a d d) ∙ ap (λ v. bit_xor v d) e

module _ (m low : ℕ) (positive : 0 < m) (low_fits : low < 2 ^ m) where
  pub times-below : (a b : ℕ) → b < 2 ^ m → times m low a b < 2 ^ m
  unfolding times
  times-below a b hb = act-below m low positive low_fits m a b hb

  xor-times : (a b c : ℕ) → times m low (bit_xor a b) c ≡ bit_xor (times m low a c) (times m low b c)
  unfolding times
  xor-times a b c = act-sum m low m a b c

  -- squaring is additive
  pub square-xor : IsAdditiveBelow m (λ a. times m low a a)
  square-xor a b ha hb =
      xor-times a b (bit_xor a b) ∙ ap₂ bit_xor (times-xor m low positive a a b) (times-xor m low positive b a b)
      ∙ ap (λ x. bit_xor (bit_xor (times m low a a) (times m low a b)) (bit_xor x (times m low b b)))
      (times_comm m low positive b a hb ha)
      ∙ cancel_middle (times m low a a) (times m low a b) (times m low b b)

  squared-below : (k a : ℕ) → a < 2 ^ m → squared m low k a < 2 ^ m
  squared-below zero a ha = ha
  squared-below (suc k) a ha = squared-below k (times m low a a) (times-below a a ha)

  squared-xor : (k : ℕ) → IsAdditiveBelow m (squared m low k)
  squared-xor zero a b ha hb = refl
  squared-xor (suc k) a b ha hb =
      ap (squared m low k) (square-xor a b ha hb)
      ∙ squared-xor k (times m low a a) (times m low b b) (times-below a a ha) (times-below b b hb)

  -- each element is its own 2^m-th power, if each power of two is
  pub squared-all : agree_at_powers m (squared m low m) (λ a. a) ≡ true → (a : ℕ) → a < 2 ^ m → squared m low m a ≡ a
  squared-all h a ha = same_additive m (squared m low m) (λ a. a) (squared-xor m) (λ a b _ _. refl) h a ha

  -- only 0 and 1 are their own squares
  pub own-square : (cs : List ℕ) → agree_at_powers m (λ a. choose cs (bit_xor (times m low a a) a)) (λ a. bit_xor a (a % 2)) ≡ true
      → (a : ℕ) → a < 2 ^ m → times m low a a ≡ a → a < 2
  own-square cs h a ha e =
      let f : ℕ → ℕ = λ a. choose cs (bit_xor (times m low a a) a) in
      let g : ℕ → ℕ = λ a. bit_xor a (a % 2) in
      let hf : IsAdditiveBelow m f = λ a b ha hb.
      ap (choose cs)
      (ap (λ x. bit_xor x (bit_xor a b)) (square-xor a b ha hb) ∙ swap_inner (times m low a a) (times m low b b) a b)
      ∙ choose-xor cs (bit_xor (times m low a a) a) (bit_xor (times m low b b) b) in
      let hg : IsAdditiveBelow m g = λ a b _ _. ap (bit_xor (bit_xor a b)) (xor_mod a b 1) ∙ swap_inner a b (a % 2) (b % 2) in
      let c : bit_xor a (a % 2) ≡ 0 =
      sym (same_additive m f g hf hg h a ha)
      ∙ ap (choose cs) (ap (λ x. bit_xor x a) e ∙ xor_self a)
      ∙ choose-zero cs in
      let d : a ≡ a % 2 = xor-cancel a (a % 2) c in
      omega (arith, below-two a)

-- a^(2^k - 1)
unfoldable pub norm : ℕ → ℕ → ℕ → ℕ → ℕ
norm m low zero a = 1
norm m low (suc k) a = times m low a (times m low (norm m low k a) (norm m low k a))

-- a^(2^m - 2)
unfoldable pub inverse : ℕ → ℕ → ℕ → ℕ
inverse m low a = times m low (norm m low (m - 1) a) (norm m low (m - 1) a)

module _ (m low : ℕ) (positive : 0 < m) (low_fits : low < 2 ^ m) where
  pub one-below : 1 < 2 ^ m
  one-below = let e : suc (m - 1) ≡ m = omega arith in subst (λ k. 1 < 2 ^ k) e (let q = pow_pos (m - 1) in let s = pow-suc 2 (m - 1) in omega arith)

  norm-below : (k a : ℕ) → a < 2 ^ m → norm m low k a < 2 ^ m
  unfolding norm
  norm-below zero a ha = one-below
  norm-below (suc k) a ha =
      times-below m low positive low_fits a _ (times-below m low positive low_fits (norm m low k a) _ (norm-below k a ha))

  squared-last : (k a : ℕ) → squared m low (suc k) a ≡ times m low (squared m low k a) (squared m low k a)
  squared-last zero a = refl
  squared-last (suc k) a = squared-last k (times m low a a)

  -- (a b) (c d) = (a c) (b d)
  swap-times : (a b c d : ℕ) → a < 2 ^ m → b < 2 ^ m → c < 2 ^ m → d < 2 ^ m
      → times m low (times m low a b) (times m low c d) ≡ times m low (times m low a c) (times m low b d)
  swap-times a b c d ha hb hc hd =
      let below = times-below m low positive low_fits in
      times-act m low positive a b (times m low c d) ha hb (below c d hd) low_fits
      ∙ ap (times m low a)
      (sym (times-act m low positive b c d hb hc hd low_fits)
      ∙ ap (λ x. times m low x d) (times_comm m low positive b c hb hc)
      ∙ times-act m low positive c b d hc hb hd low_fits)
      ∙ sym (times-act m low positive a c (times m low b d) ha hc (below b d hd) low_fits)

  norm-times : (k a : ℕ) → a < 2 ^ m → times m low (norm m low k a) a ≡ squared m low k a
  unfolding norm
  norm-times zero a ha = times_comm m low positive 1 a one-below ha ∙ times-one m low positive a ha
  norm-times (suc k) a ha =
      let n = norm m low k a in
      let hn : n < 2 ^ m = norm-below k a ha in
      let below = times-below m low positive low_fits in
      times_comm m low positive (times m low a (times m low n n)) a (below a _ (below n n hn)) ha
      ∙ sym (times-act m low positive a a (times m low n n) ha ha (below n n hn) low_fits)
      ∙ swap-times a a n n ha ha hn hn
      ∙ ap (λ x. times m low x x) (times_comm m low positive a n ha hn ∙ norm-times k a ha)
      ∙ sym (squared-last k a)

  pub inverse-times : (cs : List ℕ)
      → agree_at_powers m (squared m low m) (λ a. a) ≡ true
      → agree_at_powers m (λ a. choose cs (bit_xor (times m low a a) a)) (λ a. bit_xor a (a % 2)) ≡ true
      → (a : ℕ) → a < 2 ^ m → a ≢ 0 → times m low a (inverse m low a) ≡ 1
  unfolding inverse norm
  inverse-times cs frobenius kernel a ha nonzero =
      let i = inverse m low a in
      let e = times m low a i in
      let below = times-below m low positive low_fits in
      let hn : norm m low (m - 1) a < 2 ^ m = norm-below (m - 1) a ha in
      let hi : i < 2 ^ m = below _ _ hn in
      let he : e < 2 ^ m = below a i hi in
      let last : suc (m - 1) ≡ m = omega arith in
      let absorbs : times m low e a ≡ a =
      norm-times (suc (m - 1)) a ha ∙ ap (λ k. squared m low k a) last
      ∙ squared-all m low positive low_fits frobenius a ha in
      let own : times m low e e ≡ e =
      sym (times-act m low positive e a i he ha hi low_fits) ∙ ap (λ x. times m low x i) absorbs in
      let small : e < 2 = own-square m low positive low_fits cs kernel e he own in
      is_one e small (λ z. nonzero (sym absorbs ∙ ap (λ x. times m low x a) z ∙ zero-times a))
    where
      zero-times : (b : ℕ) → times m low 0 b ≡ 0
      zero-times b = xor-times m low positive low_fits 0 0 b ∙ xor_self (times m low 0 b)

      is_one : (e : ℕ) → e < 2 → e ≢ 0 → e ≡ 1
      is_one e h n = omega arith

  pub inverse-below : (a : ℕ) → a < 2 ^ m → inverse m low a < 2 ^ m
  unfolding inverse
  inverse-below a ha = times-below m low positive low_fits _ _ (norm-below (m - 1) a ha)
