-- Steps of the division are additive, and several are taken at once.
use Rattle.std.specs.Prelude.{ℕ, zero, suc, ◌≡◌, ◌+◌, ◌-◌, ◌*◌, ◌%◌, ◌^◌, ◌<◌, ◌≤◌, bit_xor, refl, Bool, true, false, List, [], ◌∷◌, ◌++◌, length}
use Rattle.std.proofs.Common.{sym, ◌∙◌, ap, ap₂, subst, arith, add-zero, length-append}
use Rattle.std.proofs.Math.Nat.{pow-suc, add-mul, mul_assoc, mul_comm}
use Rattle.std.proofs.lemmas.Nat.{xor_block}
use lib.Bits.{xor_assoc, xor_zero_l, xor_zero_r, xor_shifted}
use lib.Pow.{pow_pos, pow_mono, pow-add, shl_lt, shl-shr, low as low_part}
use Rattle.s2_bits.specs.Bits.{xor, added, number, number_of}
use Rattle.s2_field.specs.Binary.{times_x, times_x-xor, times_x-zero, times_x-small}
use Rattle.s2_bch.specs.Words.{times_bit, register_step, register_after}
use Rattle.s2_bch.proofs.WordFacts.{length-times_bit, length-added, length-step}
use Rattle.s2_bch.specs.Division.{steps}

pub no_steps : (m low v : ℕ) → steps m low 0 v ≡ v
unfolding steps
no_steps m low v = refl

pub more_steps : (m low n v : ℕ) → steps m low (suc n) v ≡ steps m low n (times_x m low v)
unfolding steps
more_steps m low n v = refl

below-more : (b : Bool) (n p q : ℕ) → n < p → q ≡ p * 2 → number b * p + n < q
below-more true n p q h e = omega arith
below-more false n p q h e = omega arith

pub number_of-below : (w : List Bool) → number_of w < 2 ^ length w
number_of-below [] = pow_pos 0
number_of-below (b ∷ w) = below-more b (number_of w) (2 ^ length w) (2 ^ suc (length w)) (number_of-below w) (pow-suc 2 (length w))

number-xor : (a b : Bool) → bit_xor (number a) (number b) ≡ number (xor a b)
number-xor true true = refl
number-xor true false = refl
number-xor false true = refl
number-xor false false = refl

-- the sum of two lists of one length is the sum of their numbers
pub number_of-sum : (u v : List Bool) → length u ≡ length v → number_of (added u v) ≡ bit_xor (number_of u) (number_of v)
number_of-sum [] [] e = refl
number_of-sum [] (c ∷ v) e = absurd (omega arith)
number_of-sum (b ∷ u) [] e = absurd (omega arith)
number_of-sum (b ∷ u) (c ∷ v) e =
    let same : length u ≡ length v = omega arith in
    ap₂ (λ k s. number (xor b c) * 2 ^ k + s) (length-added u v) (number_of-sum u v same)
    ∙ ap (λ d. d * 2 ^ length v + bit_xor (number_of u) (number_of v)) (sym (number-xor b c))
    ∙ sym (ap (λ k. bit_xor (number b * 2 ^ k + number_of u) (number c * 2 ^ length v + number_of v)) same
    ∙ xor_block (length v) (number b) (number c) (number_of u) (number_of v)
    (subst (λ k. number_of u < 2 ^ k) same (number_of-below u)) (number_of-below v))

times_true : (g : List Bool) → times_bit true g ≡ g
times_true [] = refl
times_true (d ∷ g) = ap (λ u. d ∷ u) (times_true g)

times_false : (g : List Bool) → number_of (times_bit false g) ≡ 0
times_false [] = refl
times_false (d ∷ g) = omega (arith, times_false g)

number_of-times_bit : (c : Bool) (g : List Bool) → number_of (times_bit c g) ≡ number c * number_of g
number_of-times_bit true g = ap number_of (times_true g) ∙ omega arith
number_of-times_bit false g = times_false g ∙ omega arith

double-more : (b : Bool) (n s p q : ℕ) → s ≡ n * 2 → q ≡ p * 2 → number b * q + s ≡ (number b * p + n) * 2
double-more true n s p q es eq = omega arith
double-more false n s p q es eq = omega arith

number_of-more : (r : List Bool) → number_of (r ++ false ∷ []) ≡ number_of r * 2
number_of-more [] = refl
number_of-more (b ∷ r) =
    let l : length (r ++ false ∷ []) ≡ suc (length r) = omega (arith, length-append r (false ∷ [])) in
    ap (λ k. number b * 2 ^ k + number_of (r ++ false ∷ [])) l
    ∙ double-more b (number_of r) _ (2 ^ length r) (2 ^ suc (length r)) (number_of-more r) (pow-suc 2 (length r))

-- a sum, moved up
pub xor-scale : (a b k : ℕ) → bit_xor a b * 2 ^ k ≡ bit_xor (a * 2 ^ k) (b * 2 ^ k)
xor-scale a b k =
    sym (ap₂ bit_xor (sym (add-zero (a * 2 ^ k))) (sym (add-zero (b * 2 ^ k)))
    ∙ xor_block k a b 0 0 (pow_pos k) (pow_pos k) ∙ add-zero (bit_xor a b * 2 ^ k))

-- the highest of m bits is carried out as `low`
module _ (m low : ℕ) (positive : 0 < m) where
  times_top : (c : Bool) → times_x m low (number c * 2 ^ (m - 1)) ≡ number c * low
  times_top false =
      let z : (n : ℕ) → 0 * n ≡ 0 = λ n. omega arith in
      ap (times_x m low) (z (2 ^ (m - 1))) ∙ times_x-zero m low ∙ sym (z low)
  times_top true =
      let e : suc (m - 1) ≡ m = omega arith in
      let up : 2 ^ m ≡ 2 ^ (m - 1) * 2 = sym (ap (λ x. 2 ^ x) e) ∙ pow-suc 2 (m - 1) in
      let whole : 1 * 2 ^ (m - 1) * 2 ≡ 1 * 2 ^ m + 0 = omega arith in
      ap₂ bit_xor (ap (λ x. x % 2 ^ m) whole ∙ low_part 1 m (pow_pos m)) (ap (λ x. x % 2 * low) (shl-shr 1 (m - 1)))
      ∙ xor_zero_l (1 * low)

  -- what the register makes of its first bit and the next
  times_first : (h b : Bool) (y : ℕ) → y < 2 ^ (m - 1)
      → times_x m low (bit_xor (number h * 2 ^ (m - 1) + y) (number b * 2 ^ (m - 1))) ≡ bit_xor (number (xor h b) * low) (y * 2)
  times_first h b y hy =
      ap (times_x m low)
      (ap (bit_xor (number h * 2 ^ (m - 1) + y)) (sym (add-zero (number b * 2 ^ (m - 1))))
      ∙ xor_block (m - 1) (number h) (number b) y 0 hy (pow_pos (m - 1))
      ∙ ap₂ (λ c z. c * 2 ^ (m - 1) + z) (number-xor h b) (xor_zero_r y)
      ∙ sym (xor_shifted (number (xor h b)) (m - 1) y hy))
      ∙ times_x-xor m low (number (xor h b) * 2 ^ (m - 1)) y
      ∙ ap₂ bit_xor (times_top (xor h b)) (times_x-small m low positive y hy)

  -- a step of the register
  pub register-number : (t r : List Bool) (b : Bool) (pad : ℕ) → length r ≡ length t → length t + pad ≡ m → 0 < length t
      → low ≡ number_of t * 2 ^ pad
      → number_of (register_step t r b) * 2 ^ pad ≡ times_x m low (bit_xor (number_of r * 2 ^ pad) (number b * 2 ^ (m - 1)))
  register-number t [] b pad e w some is = absurd (omega arith)
  register-number t (h ∷ r) b pad e w some is =
      let k : ℕ = length r in
      let top : m - 1 ≡ k + pad = omega arith in
      let hy : number_of r * 2 ^ pad < 2 ^ (m - 1) = subst (λ n. number_of r * 2 ^ pad < 2 ^ n) (sym top) (shl_lt k pad (number_of-below r)) in
      let split : number_of (h ∷ r) * 2 ^ pad ≡ number h * 2 ^ (m - 1) + number_of r * 2 ^ pad =
      add-mul (number h * 2 ^ k) (number_of r) (2 ^ pad)
      ∙ ap (λ x. x + number_of r * 2 ^ pad)
      (mul_assoc (number h) (2 ^ k) (2 ^ pad) ∙ ap (λ x. number h * x) (sym (ap (λ n. 2 ^ n) top ∙ pow-add 2 k pad))) in
      ap (λ n. n * 2 ^ pad)
      (number_of-sum (times_bit (xor h b) t) (r ++ false ∷ []) (omega (arith, length-times_bit (xor h b) t, length-append r (false ∷ [])))
      ∙ ap₂ bit_xor (number_of-times_bit (xor h b) t) (number_of-more r))
      ∙ xor-scale (number (xor h b) * number_of t) (number_of r * 2) pad
      ∙ ap₂ bit_xor
      (mul_assoc (number (xor h b)) (number_of t) (2 ^ pad) ∙ ap (λ x. number (xor h b) * x) (sym is))
      (mul_assoc (number_of r) 2 (2 ^ pad) ∙ ap (λ x. number_of r * x) (mul_comm 2 (2 ^ pad)) ∙ sym (mul_assoc (number_of r) (2 ^ pad) 2))
      ∙ sym (ap (λ x. times_x m low (bit_xor x (number b * 2 ^ (m - 1)))) split ∙ times_first h b (number_of r * 2 ^ pad) hy)

  pub steps-xor : (n a b : ℕ) → steps m low n (bit_xor a b) ≡ bit_xor (steps m low n a) (steps m low n b)
  unfolding steps
  steps-xor zero a b = refl
  steps-xor (suc n) a b = ap (steps m low n) (times_x-xor m low a b) ∙ steps-xor n (times_x m low a) (times_x m low b)

  -- a word fed into the register
  pub register-steps : (t : List Bool) (pad : ℕ) → length t + pad ≡ m → 0 < length t → low ≡ number_of t * 2 ^ pad
      → (w r : List Bool) → length r ≡ length t → length w ≤ m
      → number_of (register_after t r w) * 2 ^ pad
      ≡ steps m low (length w) (bit_xor (number_of r * 2 ^ pad) (number_of w * 2 ^ (m - length w)))
  unfolding steps
  register-steps t pad fits some is [] r e h =
      let z : 0 * 2 ^ (m - 0) ≡ 0 = omega arith in
      sym (ap (bit_xor (number_of r * 2 ^ pad)) z ∙ xor_zero_r (number_of r * 2 ^ pad))
  register-steps t pad fits some is (b ∷ w) r e h =
      let k : ℕ = length w in
      let R : ℕ = number_of r * 2 ^ pad in
      let B : ℕ = number b * 2 ^ (m - 1) in
      let W : ℕ = number_of w * 2 ^ (m - suc k) in
      let top : k + (m - suc k) ≡ m - 1 = omega arith in
      let next : suc (m - suc k) ≡ m - k = omega arith in
      let hW : W < 2 ^ (m - 1) = subst (λ n. W < 2 ^ n) top (shl_lt k (m - suc k) (number_of-below w)) in
      let upW : W * 2 ≡ number_of w * 2 ^ (m - k) =
      mul_assoc (number_of w) (2 ^ (m - suc k)) 2
      ∙ ap (λ x. number_of w * x) (sym (pow-suc 2 (m - suc k)) ∙ ap (λ n. 2 ^ n) next) in
      let split : number_of (b ∷ w) * 2 ^ (m - suc k) ≡ bit_xor B W =
      add-mul (number b * 2 ^ k) (number_of w) (2 ^ (m - suc k))
      ∙ ap (λ x. x + W) (mul_assoc (number b) (2 ^ k) (2 ^ (m - suc k)) ∙ ap (λ x. number b * x) (sym (pow-add 2 k (m - suc k)) ∙ ap (λ n. 2 ^ n) top))
      ∙ sym (xor_shifted (number b) (m - 1) W hW) in
      register-steps t pad fits some is w (register_step t r b) (length-step t r b ∙ e) (omega arith)
      ∙ ap (λ x. steps m low k (bit_xor x (number_of w * 2 ^ (m - k)))) (register-number t r b pad e fits some is)
      ∙ ap (steps m low k)
      (sym (ap (λ x. times_x m low (bit_xor R x)) split
      ∙ ap (times_x m low) (sym (xor_assoc R B W))
      ∙ times_x-xor m low (bit_xor R B) W
      ∙ ap (bit_xor (times_x m low (bit_xor R B))) (times_x-small m low positive W hW ∙ upW)))

  -- steps that carry nothing out move up
  steps-small : (n y : ℕ) → n ≤ m → y < 2 ^ (m - n) → steps m low n y ≡ y * 2 ^ n
  unfolding steps
  steps-small zero y h hy = omega arith
  steps-small (suc n) y h hy =
      let up : 2 ^ (m - suc n) ≤ 2 ^ (m - 1) = pow_mono (omega arith) in
      let next : suc (m - suc n) ≡ m - n = omega arith in
      let double : 2 ^ (m - n) ≡ 2 ^ (m - suc n) * 2 = sym (ap (λ x. 2 ^ x) next) ∙ pow-suc 2 (m - suc n) in
      ap (steps m low n) (times_x-small m low positive y (omega arith))
      ∙ steps-small n (y * 2) (omega arith) (omega arith)
      ∙ mul_assoc y 2 (2 ^ n) ∙ ap (λ x. y * x) (mul_comm 2 (2 ^ n) ∙ sym (pow-suc 2 n))

  -- n steps at once: what is carried out is known by the n highest bits
  pub steps-at_once : (n top v rest : ℕ) → n ≤ m → rest < 2 ^ (m - n)
      → steps m low n (bit_xor (top * 2 ^ (m - n) + rest) (v * 2 ^ (m - n)))
      ≡ bit_xor (steps m low n (bit_xor top v * 2 ^ (m - n))) (rest * 2 ^ n)
  steps-at_once n top v rest h hr =
      ap (steps m low n)
      (ap (bit_xor (top * 2 ^ (m - n) + rest)) (sym (add-zero (v * 2 ^ (m - n))))
      ∙ xor_block (m - n) top v rest 0 hr (pow_pos (m - n))
      ∙ ap (λ z. bit_xor top v * 2 ^ (m - n) + z) (xor_zero_r rest)
      ∙ sym (xor_shifted (bit_xor top v) (m - n) rest hr))
      ∙ steps-xor n (bit_xor top v * 2 ^ (m - n)) rest
      ∙ ap (bit_xor (steps m low n (bit_xor top v * 2 ^ (m - n)))) (steps-small n rest h hr)

  -- steps, and then others
  pub steps-add : (a b v : ℕ) → steps m low (a + b) v ≡ steps m low b (steps m low a v)
  unfolding steps
  steps-add zero b v = let e : 0 + b ≡ b = omega arith in ap (λ n. steps m low n v) e
  steps-add (suc a) b v =
      let e : suc a + b ≡ suc (a + b) = omega arith in
      ap (λ n. steps m low n v) e ∙ steps-add a b (times_x m low v)

  -- what two parts of w bits at the top leave, each by itself and the second one step by step later
  pub steps-joined : (w n p q high rest : ℕ) → p + w ≡ m → q + w ≡ p → rest < 2 ^ w
      → bit_xor (steps m low (w + n) (high * 2 ^ p)) (steps m low n (rest * 2 ^ p)) ≡ steps m low (w + n) ((high * 2 ^ w + rest) * 2 ^ q)
  steps-joined w n p q high rest e f h =
      let y : ℕ = rest * 2 ^ q in
      let up : w + q ≡ p = omega arith in
      let left : p ≡ m - w = omega arith in
      let few : w ≤ m = omega arith in
      let hy : y < 2 ^ p = subst (λ k. y < 2 ^ k) up (shl_lt w q h) in
      let later : steps m low (w + n) y ≡ steps m low n (rest * 2 ^ p) =
      steps-add w n y
      ∙ ap (steps m low n)
      (steps-small w y few (subst (λ k. y < 2 ^ k) left hy)
      ∙ mul_assoc rest (2 ^ q) (2 ^ w) ∙ ap (λ x. rest * x) (sym (pow-add 2 q w) ∙ ap (λ k. 2 ^ k) f)) in
      let whole : (high * 2 ^ w + rest) * 2 ^ q ≡ bit_xor (high * 2 ^ p) y =
      add-mul (high * 2 ^ w) rest (2 ^ q)
      ∙ ap (λ x. x + y) (mul_assoc high (2 ^ w) (2 ^ q) ∙ ap (λ x. high * x) (sym (pow-add 2 w q) ∙ ap (λ k. 2 ^ k) up))
      ∙ sym (xor_shifted high p y hy) in
      sym (ap (steps m low (w + n)) whole
      ∙ steps-xor (w + n) (high * 2 ^ p) y
      ∙ ap (bit_xor (steps m low (w + n) (high * 2 ^ p))) later)

-- the number of a word in two parts
pub number_of-parts : (u v : List Bool) → number_of (u ++ v) ≡ number_of u * 2 ^ length v + number_of v
number_of-parts [] v = omega arith
number_of-parts (b ∷ u) v =
    let p : 2 ^ length (u ++ v) ≡ 2 ^ length u * 2 ^ length v = ap (λ k. 2 ^ k) (length-append u v) ∙ pow-add 2 (length u) (length v) in
    let s : (number b * 2 ^ length u + number_of u) * 2 ^ length v ≡ number b * (2 ^ length u * 2 ^ length v) + number_of u * 2 ^ length v =
    add-mul (number b * 2 ^ length u) (number_of u) (2 ^ length v)
    ∙ ap (λ x. x + number_of u * 2 ^ length v) (mul_assoc (number b) (2 ^ length u) (2 ^ length v)) in
    omega (arith, ap (λ x. number b * x) p, s, number_of-parts u v)
