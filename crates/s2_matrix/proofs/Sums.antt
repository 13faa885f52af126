-- Sums of bits.
use Rattle.std.proofs.Common.{◌≡◌, ◌≢◌, ℕ, zero, suc, ◌+◌, ◌%◌, ◌<◌, ◌&&◌, ◌||◌, Bool, true, false, cond, List, [], ◌∷◌, filter, inl, inr, refl, sym, ap, ap₂, ◌∙◌, arith}
use Rattle.std.specs.List.{count_by}
use Rattle.std.proofs.lemmas.Bool.{cases_Bool, cases_eq}
use Rattle.std.proofs.lemmas.List.Sums.{sum_by-cons, sum_by_push}
use Rattle.s2_bits.specs.Bits.{xor, number}
use Rattle.s2_bits.proofs.Sums.{xor_none, xor_swap, xor_assoc}
use Rattle.s2_matrix.specs.Total.{upto}
use Rattle.s2_matrix.proofs.Totals.{upto_more}
use Rattle.s2_matrix.specs.Sums.{sum_of}

-- of two tests that never both pass
pub or_apart : (p q w : Bool) → (q ≡ true → p ≡ false) → ((p || q) && w) ≡ xor (p && w) (q && w)
or_apart true true w clash = cc (clash refl)
or_apart true false w clash = sym (xor_none w)
or_apart false true true clash = refl
or_apart false true false clash = refl
or_apart false false w clash = refl

-- ---- sums

pub sum_of-same : (f g : ℕ → Bool) (n : ℕ) → ((i : ℕ) → i < n → f i ≡ g i) → sum_of f n ≡ sum_of g n
sum_of-same f g zero same = refl
sum_of-same f g (suc n) same = ap₂ xor (sum_of-same f g n (λ i h. same i (omega arith))) (same n (omega arith))

pub sum_of-xor : (f g : ℕ → Bool) (n : ℕ) → sum_of (λ i. xor (f i) (g i)) n ≡ xor (sum_of f n) (sum_of g n)
sum_of-xor f g zero = refl
sum_of-xor f g (suc n) =
    ap (λ s. xor s (xor (f n) (g n))) (sum_of-xor f g n) ∙ xor_swap (sum_of f n) (sum_of g n) (f n) (g n)

pub sum_of-none : (f : ℕ → Bool) (n : ℕ) → ((i : ℕ) → i < n → f i ≡ false) → sum_of f n ≡ false
sum_of-none f zero none = refl
sum_of-none f (suc n) none = ap₂ xor (sum_of-none f n (λ i h. none i (omega arith))) (none n (omega arith))

-- all but one are zero
pub sum_of-one : (f : ℕ → Bool) (a n : ℕ) → a < n → ((i : ℕ) → i < n → i ≢ a → f i ≡ false) → sum_of f n ≡ f a
sum_of-one f a zero low only = absurd (omega arith)
sum_of-one f a (suc n) low only =
    elim (cases_eq a n) [
      | inl same ↦ (
          let none : sum_of f n ≡ false = sum_of-none f n (λ i h. only i (omega arith) (λ e. omega arith)) in
          ap (λ s. xor s (f n)) none ∙ ap f (sym same)
          )
      | inr other ↦ (
          let last : f n ≡ false = only n (omega arith) (λ e. other (sym e)) in
          let less : a < n = omega (arith, other) in
          ap₂ xor (sum_of-one f a n less (λ i h. only i (omega arith))) last ∙ xor_none (f a)
          )
    ]

pub sum_of-add : (f : ℕ → Bool) (m n : ℕ) → sum_of f (m + n) ≡ xor (sum_of f m) (sum_of (λ i. f (m + i)) n)
sum_of-add f m zero = let none : m + zero ≡ m = omega arith in ap (sum_of f) none ∙ sym (xor_none (sum_of f m))
sum_of-add f m (suc n) =
    let one : m + suc n ≡ suc (m + n) = omega arith in
    ap (sum_of f) one ∙ ap (λ s. xor s (f (m + n))) (sum_of-add f m n) ∙ xor_assoc (sum_of f m) (sum_of (λ i. f (m + i)) n) (f (m + n))

-- ---- counts

count_filter : (p q : ℕ → Bool) (xs : List ℕ) → count_by p (filter q xs) ≡ count_by (λ x. q x && p x) xs
count_filter p q [] = refl
count_filter p q (x ∷ xs) =
    let rest = count_filter p q xs in
    let all = sum_by-cons (λ y. cond (q y && p y) 1 0) x xs in
    elim (cases_Bool (q x)) [
      | inl keeps ↦ (
          let here = ap (λ b. cond {A = ℕ} (b && p x) 1 0) keeps in
          let list : filter q (x ∷ xs) ≡ x ∷ filter q xs = rw keeps refl in
          let kept = sum_by-cons (λ y. cond (p y) 1 0) x (filter q xs) in
          omega (arith, ap (count_by p) list)
          )
      | inr drops ↦ (
          let here = ap (λ b. cond {A = ℕ} (b && p x) 1 0) drops in
          let list : filter q (x ∷ xs) ≡ filter q xs = rw drops refl in
          omega (arith, ap (count_by p) list)
          )
    ]

odd_step : (c : ℕ) (s b : Bool) → c % 2 ≡ number s → (c + cond {A = ℕ} b 1 0) % 2 ≡ number (xor s b)
odd_step c true true e = omega arith
odd_step c true false e = omega arith
odd_step c false true e = omega arith
odd_step c false false e = omega arith

odd_count : (f : ℕ → Bool) (n : ℕ) → count_by f (upto n) % 2 ≡ number (sum_of f n)
odd_count f zero = refl
odd_count f (suc n) =
    let one : suc n ≡ n + 1 = omega arith in
    let more : count_by f (upto (suc n)) ≡ count_by f (upto n) + cond {A = ℕ} (f n) 1 0 = ap (λ k. count_by f (upto k)) one ∙ ap (count_by f) (upto_more n) ∙ sum_by_push (λ y. cond (f y) 1 0) (upto n) n in
    ap (λ k. k % 2) more ∙ odd_step (count_by f (upto n)) (sum_of f n) (f n) (odd_count f n)

-- whether a count over a part is odd
pub odd_part : (p q : ℕ → Bool) (n : ℕ) → count_by p (filter q (upto n)) % 2 ≡ number (sum_of (λ i. q i && p i) n)
odd_part p q n = ap (λ k. k % 2) (count_filter p q (upto n)) ∙ odd_count (λ i. q i && p i) n

-- ---- one bit more

pub sum_more : (f : ℕ → Bool) (j : ℕ) → sum_of f (j + 1) ≡ xor (sum_of f j) (f j)
sum_more f j = let one : j + 1 ≡ suc j = omega arith in ap (sum_of f) one
