-- Laws of `total`.
use Rattle.std.proofs.Common.{◌≡◌, ℕ, zero, suc, ◌+◌, ◌≤◌, ◌<◌, Bool, true, false, cond, List, [], ◌∷◌, ◌++◌, map, filter, length, get_or, take, ℤ, pos, ◌+ℤ◌, ◌*ℤ◌, ◌≤ℤ◌, ◌<ℤ◌, refl, sym, ap, ◌∙◌, arith}
use Rattle.std.specs.List.{range_with_len}
use Rattle.std.proofs.lemmas.List.{take_more}
use Rattle.std.proofs.Math.IntN.{suc_ℤ-*ℤ, zero-*ℤ}
use Rattle.std.proofs.lemmas.Int.{ints, by_lt_z}
use Rattle.s2_matrix.specs.Total.{total, upto}

-- a sum over what passes is the sum with 0 for the rest
pub total-filter : {X : Type 0} (f : X → ℤ) (p : X → Bool) (xs : List X) → total f (filter p xs) ≡ total (λ x. cond (p x) (f x) (pos 0)) xs
total-filter f p [] = refl
total-filter {X} f p (x ∷ xs) =
    let rest = total (λ (y : X). cond (p y) (f y) (pos 0)) xs in
    let step : total f (filter p xs) ≡ rest = total-filter f p xs in
    elim (p x) as (λ b. total f (cond b (x ∷ filter p xs) (filter p xs)) ≡ cond b (f x) (pos 0) +ℤ rest) [
      | true ↦ ap (λ t. f x +ℤ t) step
      | false ↦ omega (arith, ints)
    ]

pub total-add : {X : Type 0} (f g : X → ℤ) (xs : List X) → total (λ x. f x +ℤ g x) xs ≡ total f xs +ℤ total g xs
total-add f g [] = refl
total-add f g (x ∷ xs) = omega (arith, ints, total-add f g xs)

pub total-zero : {X : Type 0} (xs : List X) → total (λ (x : X). pos 0) xs ≡ pos 0
total-zero [] = refl
total-zero (x ∷ xs) = omega (arith, ints, total-zero xs)

pub total-same : {X : Type 0} (f g : X → ℤ) (xs : List X) → ((x : X) → f x ≡ g x) → total f xs ≡ total g xs
total-same f g [] e = refl
total-same f g (x ∷ xs) e = omega (arith, ints, e x, total-same f g xs e)

-- terms that are the same at each number of a range
pub total-within : (f g : ℕ → ℤ) (a n : ℕ) → ((i : ℕ) → a ≤ i → i < a + n → f i ≡ g i) → total f (range_with_len a n) ≡ total g (range_with_len a n)
total-within f g a zero h = refl
total-within f g a (suc n) h =
    let first : f a ≡ g a = h a (omega arith) (omega arith) in
    let rest = total-within f g (a + 1) n (λ i low high. h i (omega arith) (omega arith)) in
    λ x. first x +ℤ rest x

-- a double sum, in either order
pub total-swap : {X Y : Type 0} (f : X → Y → ℤ) (xs : List X) (ys : List Y) → total (λ x. total (f x) ys) xs ≡ total (λ y. total (λ x. f x y) xs) ys
total-swap f [] ys = sym (total-zero ys)
total-swap f (x ∷ xs) ys =
    ap (λ t. total (f x) ys +ℤ t) (total-swap f xs ys) ∙ sym (total-add (f x) (λ y. total (λ x'. f x' y) xs) ys)

pub total-cond : {X : Type 0} (b : Bool) (f : X → ℤ) (xs : List X) → total (λ x. cond b (f x) (pos 0)) xs ≡ cond b (total f xs) (pos 0)
total-cond true f xs = refl
total-cond false f xs = total-zero xs

-- a term that is at most another's, at each number of a range
pub total-le : (f g : ℕ → ℤ) (a n : ℕ) → ((i : ℕ) → a ≤ i → i < a + n → f i ≤ℤ g i) → total f (range_with_len a n) ≤ℤ total g (range_with_len a n)
total-le f g a zero h = omega (arith, ints)
total-le f g a (suc n) h =
    let first : f a ≤ℤ g a = h a (omega arith) (omega arith) in
    let others = total-le f g (a + 1) n (λ i low high. h i (omega arith) (omega arith)) in
    omega (arith, ints, first, others)

-- ---- a scale

scale_more : (s : ℕ) (a : ℤ) → pos (suc s) *ℤ a ≡ pos s *ℤ a +ℤ a
scale_more s a = suc_ℤ-*ℤ (pos s) a

pub scale-add : (s : ℕ) (a b : ℤ) → pos s *ℤ (a +ℤ b) ≡ pos s *ℤ a +ℤ pos s *ℤ b
scale-add zero a b = omega (arith, ints, zero-*ℤ (a +ℤ b), zero-*ℤ a, zero-*ℤ b)
scale-add (suc s) a b = omega (arith, ints, scale_more s (a +ℤ b), scale_more s a, scale_more s b, scale-add s a b)

pub scale-zero : (s : ℕ) → pos s *ℤ pos 0 ≡ pos 0
scale-zero zero = zero-*ℤ (pos 0)
scale-zero (suc s) = omega (arith, ints, scale_more s (pos 0), scale-zero s)

pub total-scale : {X : Type 0} (s : ℕ) (f : X → ℤ) (xs : List X) → pos s *ℤ total f xs ≡ total (λ x. pos s *ℤ f x) xs
total-scale s f [] = scale-zero s
total-scale s f (x ∷ xs) = scale-add s (f x) (total f xs) ∙ ap (λ t. pos s *ℤ f x +ℤ t) (total-scale s f xs)

scale-lt : (s : ℕ) (a b : ℤ) → a <ℤ b → (pos (suc s) *ℤ a) <ℤ (pos (suc s) *ℤ b)
scale-lt zero a b h = omega (arith, ints, scale_more zero a, scale_more zero b, zero-*ℤ a, zero-*ℤ b)
scale-lt (suc s) a b h = omega (arith, ints, scale_more (suc s) a, scale_more (suc s) b, scale-lt s a b h)

pub scale_cancel : (s : ℕ) (a b : ℤ) → 1 ≤ s → (pos s *ℤ a) ≤ℤ (pos s *ℤ b) → a ≤ℤ b
scale_cancel zero a b one h = absurd (omega arith)
scale_cancel (suc s) a b one h =
    by_lt_z b a (λ less. absurd (omega (arith, ints, scale-lt s b a less))) (λ le. le)

-- ---- a loop's step

pub total-append : {X : Type 0} (f : X → ℤ) (xs ys : List X) → total f (xs ++ ys) ≡ total f xs +ℤ total f ys
total-append f [] ys = omega (arith, ints)
total-append f (x ∷ xs) ys = omega (arith, ints, total-append f xs ys)

pub total_more : {X : Type 0} (f : X → ℤ) (xs : List X) (i : ℕ) (d : X) → i < length xs → total f (take (i + 1) xs) ≡ total f (take i xs) +ℤ f (get_or xs i d)
total_more f xs i d h =
    ap (total f) (take_more xs i d h) ∙ total-append f (take i xs) (get_or xs i d ∷ []) ∙ omega (arith, ints)

pub total-map : {X Y : Type 0} (f : Y → ℤ) (g : X → Y) (xs : List X) → total f (map g xs) ≡ total (λ x. f (g x)) xs
total-map f g [] = refl
total-map f g (x ∷ xs) = ap (λ t. f (g x) +ℤ t) (total-map f g xs)

range_more : (a n : ℕ) → range_with_len a (suc n) ≡ range_with_len a n ++ (a + n) ∷ []
range_more a zero = ap (λ k. k ∷ []) (omega arith)
range_more a (suc n) =
    ap (λ ks. a ∷ ks) (range_more (a + 1) n ∙ ap (λ k. range_with_len (a + 1) n ++ k ∷ []) (omega arith))

pub upto_more : (n : ℕ) → upto (n + 1) ≡ upto n ++ n ∷ []
upto_more n =
    let one : n + 1 ≡ suc n = omega arith in
    let none : 0 + n ≡ n = omega arith in
    ap upto one ∙ range_more 0 n ∙ ap (λ k. upto n ++ k ∷ []) none

pub total-upto_more : (f : ℕ → ℤ) (n : ℕ) → total f (upto (n + 1)) ≡ total f (upto n) +ℤ f n
total-upto_more f n = ap (total f) (upto_more n) ∙ total-append f (upto n) (n ∷ []) ∙ omega (arith, ints)
