-- What the register leaves makes a word of the message, and it is the only one.
use Rattle.std.specs.Prelude.{ℕ, zero, suc, ◌≡◌, ◌+◌, ◌-◌, ◌≤◌, refl, Bool, true, false, ◌&&◌, List, [], ◌∷◌, ◌++◌, length, take, replicate}
use Rattle.std.proofs.Common.{sym, ◌∙◌, ap, ap₂, arith, length-append}
use Rattle.std.proofs.Math.ListN.{length-replicate}
use Rattle.s2_bits.specs.Bits.{xor, added}
use Rattle.s2_bits.proofs.Sums.{xor_none, xor_same}
use Rattle.s2_bch.specs.Words.{times_bit, product, IsWordOf, register_step, register_after}

-- the quotient's bits, as the register makes them
quotient : List Bool → List Bool → List Bool → List Bool
quotient t r [] = []
quotient t [] (b ∷ m) = b ∷ quotient t [] m
quotient t (h ∷ r) (b ∷ m) = xor h b ∷ quotient t (register_step t (h ∷ r) b) m

flip_twice : (a b c : Bool) → xor a (xor (xor a b) c) ≡ xor b c
flip_twice false b c = refl
flip_twice true true true = refl
flip_twice true true false = refl
flip_twice true false true = refl
flip_twice true false false = refl

and-true : (b : Bool) → (b && true) ≡ b
and-true true = refl
and-true false = refl

pub length-times_bit : (b : Bool) (g : List Bool) → length (times_bit b g) ≡ length g
length-times_bit b [] = refl
length-times_bit b (c ∷ g) = ap suc (length-times_bit b g)

pub length-added : (f w : List Bool) → length (added f w) ≡ length w
length-added [] w = refl
length-added (a ∷ f) [] = refl
length-added (a ∷ f) (b ∷ w) = ap suc (length-added f w)

pub length-product : (q g : List Bool) → length (product q g) ≡ length q + (length g - 1)
length-product [] g = length-replicate (length g - 1) false ∙ omega arith
length-product (b ∷ q) g =
    length-added (times_bit b g) (false ∷ product q g) ∙ ap suc (length-product q g) ∙ omega arith

-- a product by a polynomial that begins with 1 begins with the first factor's first bit
pub product-front : (b : Bool) (q t : List Bool) → product (b ∷ q) (true ∷ t) ≡ b ∷ added (times_bit b t) (product q (true ∷ t))
product-front b q t =
    ap (λ x. x ∷ added (times_bit b t) (product q (true ∷ t))) (xor_none (b && true) ∙ and-true b)

added-more : (r w : List Bool) → added (r ++ false ∷ []) w ≡ added r w
added-more [] [] = refl
added-more [] (b ∷ w) = refl
added-more (a ∷ r) [] = refl
added-more (a ∷ r) (b ∷ w) = ap (λ x. xor a b ∷ x) (added-more r w)

added-twice : (t r w : List Bool) → length t ≤ length r → added t (added (added t r) w) ≡ added r w
added-twice [] r w h = refl
added-twice (a ∷ t) [] w h = absurd (omega arith)
added-twice (a ∷ t) (b ∷ r) [] h = refl
added-twice (a ∷ t) (b ∷ r) (c ∷ w) h =
    ap₂ (λ x y. x ∷ y) (flip_twice a b c) (added-twice t r w (omega arith))

add_front_self : (r : List Bool) → added r r ≡ replicate (length r) false
add_front_self [] = refl
add_front_self (a ∷ r) = ap₂ (λ x y. x ∷ y) (xor_same a) (add_front_self r)

added-zeros : (n : ℕ) (w : List Bool) → added (replicate n false) w ≡ w
added-zeros zero w = refl
added-zeros (suc n) [] = refl
added-zeros (suc n) (b ∷ w) = ap (λ x. b ∷ x) (added-zeros n w)

pub length-step : (t r : List Bool) (b : Bool) → length (register_step t r b) ≡ length r
length-step t [] b = refl
length-step t (h ∷ r) b =
    length-added (times_bit (xor h b) t) (r ++ false ∷ []) ∙ omega (arith, length-append r (false ∷ []))

-- the register holds what is left: its quotient times x^degree + t is the start, the message and the end
division : (t r m : List Bool) → length r ≡ length t
    → product (quotient t r m) (true ∷ t) ≡ added r (m ++ register_after t r m)
unfolding quotient
division t r [] e =
    let z : length (true ∷ t) - 1 ≡ length r = omega arith in
    ap (λ n. replicate n false) z ∙ sym (add_front_self r)
division [] [] (b ∷ m) e =
    product-front b (quotient [] [] m) [] ∙ ap (λ x. b ∷ x) (division [] [] m e)
division (c ∷ t) [] (b ∷ m) e = absurd (omega arith)
division t (h ∷ r) (b ∷ m) e =
    let x = xor h b in
    product-front x (quotient t (register_step t (h ∷ r) b) m) t
    ∙ ap (λ w. x ∷ w)
    (ap (added (times_bit x t)) (division t (register_step t (h ∷ r) b) m (length-step t (h ∷ r) b ∙ e))
    ∙ added-twice (times_bit x t) (r ++ false ∷ []) _
    (omega (arith, length-times_bit x t, length-append r (false ∷ [])))
    ∙ added-more r _)

-- what the encoder makes
abbrev pub encoded : List Bool → List Bool → List Bool
encoded t m = m ++ register_after t (replicate (length t) false) m

pub take-append : (m r : List Bool) → take (length m) (m ++ r) ≡ m
take-append [] r = refl
take-append (b ∷ m) r = ap (λ x. b ∷ x) (take-append m r)

pub length-after : (t r m : List Bool) → length (register_after t r m) ≡ length r
length-after t r [] = refl
length-after t r (b ∷ m) = length-after t (register_step t r b) m ∙ length-step t r b

pub encoded-is-word : (t m : List Bool) → IsWordOf (true ∷ t) m (encoded t m)
encoded-is-word t m = record {
  front = take-append m _;
  size = omega (arith, length-append m (register_after t (replicate (length t) false) m), length-after t (replicate (length t) false) m, length-replicate (length t) false);
  multiple = (
    quotient t (replicate (length t) false) m,
    division t (replicate (length t) false) m (length-replicate (length t) false) ∙ added-zeros (length t) _,
  );
}

-- ---- the word is the only one

head-same : {b c : Bool} {u v : List Bool} → b ∷ u ≡ c ∷ v → b ≡ c
head-same e = cc

tail-same : {b c : Bool} {u v : List Bool} → b ∷ u ≡ c ∷ v → u ≡ v
tail-same e = cc

xor-cancel : (a b c : Bool) → xor a b ≡ xor a c → b ≡ c
xor-cancel false b c e = e
xor-cancel true true true e = refl
xor-cancel true true false e = sym e
xor-cancel true false true e = sym e
xor-cancel true false false e = refl

take-cancel : (k : ℕ) (t u v : List Bool) → length u ≡ length v → take k (added t u) ≡ take k (added t v) → take k u ≡ take k v
take-cancel zero t u v l e = refl
take-cancel (suc k) [] u v l e = e
take-cancel (suc k) (a ∷ t) [] [] l e = refl
take-cancel (suc k) (a ∷ t) [] (c ∷ v) l e = absurd (omega arith)
take-cancel (suc k) (a ∷ t) (b ∷ u) [] l e = absurd (omega arith)
take-cancel (suc k) (a ∷ t) (b ∷ u) (c ∷ v) l e =
    ap₂ (λ x y. x ∷ y) (xor-cancel a b c (head-same e)) (take-cancel k t u v (omega arith) (tail-same e))

-- a product by x^degree + t is known by as many bits as the quotient has
quotient-same : (t q p : List Bool) → length q ≡ length p
    → take (length q) (product q (true ∷ t)) ≡ take (length q) (product p (true ∷ t)) → q ≡ p
quotient-same t [] [] l e = refl
quotient-same t [] (c ∷ p) l e = absurd (omega arith)
quotient-same t (b ∷ q) [] l e = absurd (omega arith)
quotient-same t (b ∷ q) (c ∷ p) l e =
    let n : ℕ = length q in
    let e' : b ∷ take n (added (times_bit b t) (product q (true ∷ t))) ≡ c ∷ take n (added (times_bit c t) (product p (true ∷ t))) =
    sym (ap (take (suc n)) (product-front b q t)) ∙ e ∙ ap (take (suc n)) (product-front c p t) in
    let same : c ≡ b = sym (head-same e') in
    let rest : take n (added (times_bit b t) (product q (true ∷ t))) ≡ take n (added (times_bit b t) (product p (true ∷ t))) =
    tail-same e' ∙ ap (λ x. take n (added (times_bit x t) (product p (true ∷ t)))) same in
    ap₂ (λ x y. x ∷ y) (head-same e')
    (quotient-same t q p (omega arith)
    (take-cancel n (times_bit b t) (product q (true ∷ t)) (product p (true ∷ t))
    (omega (arith, length-product q (true ∷ t), length-product p (true ∷ t))) rest))

pub word-unique : (t m u v : List Bool) → IsWordOf (true ∷ t) m u → IsWordOf (true ∷ t) m v → u ≡ v
word-unique t m u v U V =
    let q = U.multiple.0 in
    let p = V.multiple.0 in
    let lq : length q ≡ length m = omega (arith, U.size, length-product q (true ∷ t), ap length U.multiple.1) in
    let lp : length p ≡ length m = omega (arith, V.size, length-product p (true ∷ t), ap length V.multiple.1) in
    let fronts : take (length q) (product q (true ∷ t)) ≡ take (length q) (product p (true ∷ t)) =
    ap₂ take lq U.multiple.1 ∙ U.front ∙ sym V.front ∙ sym (ap₂ take lq V.multiple.1) in
    let same : q ≡ p = quotient-same t q p (omega arith) fronts in
    sym U.multiple.1 ∙ ap (λ x. product x (true ∷ t)) same ∙ V.multiple.1
