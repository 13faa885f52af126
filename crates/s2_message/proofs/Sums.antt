-- Sums over the first n places, and over those of them that pass a test, place by place.
use Rattle.std.proofs.Common.{◌≡◌, ℕ, zero, suc, ◌+◌, ◌<◌, Bool, true, false, cond, List, [], ◌∷◌, ◌++◌, length, add-one, refl, sym, ap, ◌∙◌, arith}
use Rattle.std.specs.List.{filter, range_with_len, sum_by}
use Rattle.std.proofs.lemmas.List.Sums.{sum_by-append, sum_by-cons}
use Rattle.std.proofs.lemmas.List.Elements.{filter-append}
use Rattle.s2_message.specs.Errors.{sum_from}

-- the sum of f over the first n places
unfoldable pub summed : (ℕ → ℕ) → ℕ → ℕ
summed f zero = 0
summed f (suc n) = summed f n + f n

-- the same over those that pass a test
unfoldable pub chosen : (ℕ → Bool) → (ℕ → ℕ) → ℕ → ℕ
chosen p f zero = 0
chosen p f (suc n) = chosen p f n + cond (p n) (f n) 0

-- ---- they are sums over ranges

pub range_more : (a n : ℕ) → range_with_len a (suc n) ≡ range_with_len a n ++ ((a + n) ∷ [])
range_more a zero =
    let e : a ≡ a + 0 = omega arith in
    ap (λ k. k ∷ []) e
range_more a (suc n) =
    let e : a + 1 + n ≡ a + suc n = omega arith in
    ap (λ ks. a ∷ ks) (range_more (a + 1) n) ∙ ap (λ k. a ∷ (range_with_len (a + 1) n ++ (k ∷ []))) e

pub from_none : (n : ℕ) → range_with_len 0 (suc n) ≡ range_with_len 0 n ++ (n ∷ [])
from_none n =
    let e : 0 + n ≡ n = omega arith in
    range_more 0 n ∙ ap (λ k. range_with_len 0 n ++ (k ∷ [])) e

alone : (f : ℕ → ℕ) (k : ℕ) → sum_by f (k ∷ []) ≡ f k
alone f k = omega arith

alone_if : (b : Bool) (f : ℕ → ℕ) (k : ℕ) → sum_by f (cond b (k ∷ []) []) ≡ cond b (f k) 0
alone_if true f k = alone f k
alone_if false f k = refl

pub summed_is : (f : ℕ → ℕ) (n : ℕ) → sum_by f (range_with_len 0 n) ≡ summed f n
unfolding summed
summed_is f zero = refl
summed_is f (suc n) =
    ap (sum_by f) (from_none n)
    ∙ (sum_by-append f (range_with_len 0 n) (n ∷ [])
    ∙ (λ t. summed_is f n t + alone f n t))

-- of a range that begins later too
pub sum_from_is : (f : ℕ → ℕ) (at n : ℕ) → sum_from f at n ≡ summed (λ k. f (at + k)) n
unfolding sum_from summed
sum_from_is f at zero = refl
sum_from_is f at (suc n) =
    ap (sum_by f) (range_more at n)
    ∙ (sum_by-append f (range_with_len at n) ((at + n) ∷ [])
    ∙ (λ t. sum_from_is f at n t + alone f (at + n) t))

pub from_start : (f : ℕ → ℕ) (n : ℕ) → sum_from f 0 n ≡ summed f n
unfolding sum_from
from_start f n = summed_is f n

-- a sum from the start on is a sum over a range
pub from_start_is : (f : ℕ → ℕ) (n : ℕ) → sum_from f 0 n ≡ sum_by f (range_with_len 0 n)
unfolding sum_from
from_start_is f n = refl

pub chosen_is : (p : ℕ → Bool) (f : ℕ → ℕ) (n : ℕ) → sum_by f (filter p (range_with_len 0 n)) ≡ chosen p f n
unfolding chosen
chosen_is p f zero = refl
chosen_is p f (suc n) =
    ap (λ ks. sum_by f (filter p ks)) (from_none n)
    ∙ (ap (sum_by f) (filter-append p (range_with_len 0 n) (n ∷ []))
    ∙ (sum_by-append f (filter p (range_with_len 0 n)) (filter p (n ∷ []))
    ∙ (λ t. chosen_is p f n t + alone_if (p n) f n t)))

-- a length is a sum of ones
pub ones : (xs : List ℕ) → length xs ≡ sum_by (λ _. 1) xs
ones [] = refl
ones (x ∷ xs) =
    let rest = ones xs in
    let first : sum_by (λ _. 1) (x ∷ xs) ≡ 1 + sum_by (λ _. 1) xs = sum_by-cons (λ _. 1) x xs in
    let here : suc (length xs) ≡ 1 + sum_by (λ _. 1) xs = omega (arith, rest) in
    here ∙ sym first

-- ---- one more place, and many more

pub summed_none : (f : ℕ → ℕ) → 0 ≡ summed f 0
unfolding summed
summed_none f = refl

pub summed_more : (f : ℕ → ℕ) (n : ℕ) → summed f (n + 1) ≡ summed f n + f n
unfolding summed
summed_more f n = ap (summed f) (add-one n)

pub summed_same : (f g : ℕ → ℕ) (n : ℕ) → ((k : ℕ) → k < n → f k ≡ g k) → summed f n ≡ summed g n
unfolding summed
summed_same f g zero same = refl
summed_same f g (suc n) same =
    let before : summed f n ≡ summed g n = summed_same f g n (λ k lt. same k (omega arith)) in
    let here : f n ≡ g n = same n (omega arith) in
    λ t. before t + here t

pub summed_ones : (n : ℕ) → summed (λ _. 1) n ≡ n
unfolding summed
summed_ones zero = refl
summed_ones (suc n) =
    let before : summed (λ _. 1) n ≡ n = summed_ones n in
    omega arith

if_yes : (b : Bool) (n : ℕ) → b ≡ true → cond b n 0 ≡ n
if_yes b n e = ap (λ c. cond c n 0) e

if_no : (b : Bool) (n : ℕ) → b ≡ false → cond b n 0 ≡ 0
if_no b n e = ap (λ c. cond c n 0) e

-- none of the next n places passes
pub none_pass : (p : ℕ → Bool) (f : ℕ → ℕ) (at n : ℕ) → ((k : ℕ) → k < n → p (at + k) ≡ false) → chosen p f (at + n) ≡ chosen p f at
unfolding chosen
none_pass p f at zero fails =
    let e : at + 0 ≡ at = omega arith in
    ap (chosen p f) e
none_pass p f at (suc n) fails =
    let e : at + suc n ≡ suc (at + n) = omega arith in
    let before : chosen p f (at + n) ≡ chosen p f at = none_pass p f at n (λ k lt. fails k (omega arith)) in
    let here : cond (p (at + n)) (f (at + n)) 0 ≡ 0 = if_no (p (at + n)) (f (at + n)) (fails n (omega arith)) in
    let none : chosen p f at + 0 ≡ chosen p f at = omega arith in
    ap (chosen p f) e ∙ ((λ t. before t + here t) ∙ none)

-- all of the next n places pass
pub all_pass : (p : ℕ → Bool) (f : ℕ → ℕ) (at n : ℕ) → ((k : ℕ) → k < n → p (at + k) ≡ true) → chosen p f (at + n) ≡ chosen p f at + summed (λ k. f (at + k)) n
unfolding chosen summed
all_pass p f at zero passes =
    let e : at + 0 ≡ at = omega arith in
    let none : chosen p f at ≡ chosen p f at + 0 = omega arith in
    ap (chosen p f) e ∙ none
all_pass p f at (suc n) passes =
    let e : at + suc n ≡ suc (at + n) = omega arith in
    let sum = summed (λ k. f (at + k)) n in
    let before : chosen p f (at + n) ≡ chosen p f at + sum = all_pass p f at n (λ k lt. passes k (omega arith)) in
    let here : cond (p (at + n)) (f (at + n)) 0 ≡ f (at + n) = if_yes (p (at + n)) (f (at + n)) (passes n (omega arith)) in
    let order : chosen p f at + sum + f (at + n) ≡ chosen p f at + (sum + f (at + n)) = omega arith in
    ap (chosen p f) e ∙ ((λ t. before t + here t) ∙ order)

-- all of the first n places pass
pub first_pass : (p : ℕ → Bool) (f : ℕ → ℕ) (n : ℕ) → ((k : ℕ) → k < n → p k ≡ true) → chosen p f n ≡ summed f n
unfolding chosen summed
first_pass p f zero passes = refl
first_pass p f (suc n) passes =
    let before : chosen p f n ≡ summed f n = first_pass p f n (λ k lt. passes k (omega arith)) in
    let here : cond (p n) (f n) 0 ≡ f n = if_yes (p n) (f n) (passes n (omega arith)) in
    λ t. before t + here t
