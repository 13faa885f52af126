-- Sums of correlations over the first n places, and over those of them that pass a test, place by place.
use Rattle.std.proofs.Common.{◌≡◌, ℕ, zero, suc, ◌+◌, ◌-◌, ◌*◌, ◌^◌, ◌<◌, ◌≤◌, Bool, true, false, cond, not, List, [], ◌∷◌, ◌++◌, add-one, refl, sym, ap, ◌∙◌, arith, ℤ, pos, ◌+ℤ◌, ◌-ℤ◌, unsigned_abs}
use Rattle.std.proofs.lemmas.Int.{ints}
use Rattle.std.specs.List.{filter, range_with_len}
use Rattle.std.proofs.lemmas.List.Elements.{filter-append}
use Rattle.s2_report.specs.declared.figures.Correlation.{Correlation}
use Rattle.s2_message.specs.Correlation.{IsWithin, minus, no_correlation, plus, sum_over}
use Rattle.s2_message.proofs.Sums.{range_more, from_none}

-- ---- two in one

pub plus_none : (a : Correlation) → plus a no_correlation ≡ a
plus_none a =
    let power : a.power + 0 ≡ a.power = omega arith in
    let along : a.along +ℤ pos 0 ≡ a.along = omega (arith, ints) in
    let across : a.across +ℤ pos 0 ≡ a.across = omega (arith, ints) in
    λ t. record { power = power t; along = along t; across = across t }

pub none_plus : (a : Correlation) → plus no_correlation a ≡ a
none_plus a =
    let power : 0 + a.power ≡ a.power = omega arith in
    let along : pos 0 +ℤ a.along ≡ a.along = omega (arith, ints) in
    let across : pos 0 +ℤ a.across ≡ a.across = omega (arith, ints) in
    λ t. record { power = power t; along = along t; across = across t }

pub plus_assoc : (a b c : Correlation) → plus (plus a b) c ≡ plus a (plus b c)
plus_assoc a b c =
    let power : a.power + b.power + c.power ≡ a.power + (b.power + c.power) = omega arith in
    let along : (a.along +ℤ b.along) +ℤ c.along ≡ a.along +ℤ (b.along +ℤ c.along) = omega (arith, ints) in
    let across : (a.across +ℤ b.across) +ℤ c.across ≡ a.across +ℤ (b.across +ℤ c.across) = omega (arith, ints) in
    λ t. record { power = power t; along = along t; across = across t }

plus_swap : (a b c : Correlation) → plus a (plus b c) ≡ plus b (plus a c)
plus_swap a b c =
    let power : a.power + (b.power + c.power) ≡ b.power + (a.power + c.power) = omega arith in
    let along : a.along +ℤ (b.along +ℤ c.along) ≡ b.along +ℤ (a.along +ℤ c.along) = omega (arith, ints) in
    let across : a.across +ℤ (b.across +ℤ c.across) ≡ b.across +ℤ (a.across +ℤ c.across) = omega (arith, ints) in
    λ t. record { power = power t; along = along t; across = across t }

-- what is left without a part
pub rest_is : (all part rest : Correlation) → plus part rest ≡ all → minus all part ≡ rest
rest_is all part rest is =
    let p = ap (λ (c : Correlation). c.power) is in
    let l = ap (λ (c : Correlation). c.along) is in
    let x = ap (λ (c : Correlation). c.across) is in
    let power : all.power - part.power ≡ rest.power = omega (arith, p) in
    let along : all.along -ℤ part.along ≡ rest.along = omega (arith, ints, l) in
    let across : all.across -ℤ part.across ≡ rest.across = omega (arith, ints, x) in
    λ t. record { power = power t; along = along t; across = across t }

-- ---- their bounds

pub none_within : IsWithin 0 no_correlation
none_within = record { power = omega arith; along = omega (arith, ints); across = omega (arith, ints) }

pub plus_within : (m n : ℕ) (a b : Correlation) → IsWithin m a → IsWithin n b → IsWithin (m + n) (plus a b)
plus_within m n a b p q =
    let pl = p.along in
    let pc = p.across in
    let ql = q.along in
    let qc = q.across in
    record { power = omega (arith, p.power, q.power); along = omega (arith, ints, pl, ql); across = omega (arith, ints, pc, qc) }

pub within_more : (m n : ℕ) (a : Correlation) → m ≤ n → IsWithin m a → IsWithin n a
within_more m n a le p = record { power = omega (arith, le, p.power); along = omega (arith, le, p.along); across = omega (arith, le, p.across) }

-- ---- sums over lists of places

pub sum_over-append : (f : ℕ → Correlation) (xs ys : List ℕ) → sum_over f (xs ++ ys) ≡ plus (sum_over f xs) (sum_over f ys)
sum_over-append f [] ys = sym (none_plus (sum_over f ys))
sum_over-append f (x ∷ xs) ys = ap (plus (f x)) (sum_over-append f xs ys) ∙ sym (plus_assoc (f x) (sum_over f xs) (sum_over f ys))

one_of_both : (f : ℕ → Correlation) (b : Bool) (x : ℕ) (us vs : List ℕ)
    → plus (sum_over f (cond b (x ∷ us) us)) (sum_over f (cond (not b) (x ∷ vs) vs)) ≡ plus (f x) (plus (sum_over f us) (sum_over f vs))
one_of_both f true x us vs = plus_assoc (f x) (sum_over f us) (sum_over f vs)
one_of_both f false x us vs = plus_swap (sum_over f us) (f x) (sum_over f vs)

-- over those that pass a test, and over those that do not
pub both_parts : (p : ℕ → Bool) (f : ℕ → Correlation) (xs : List ℕ) → plus (sum_over f (filter p xs)) (sum_over f (filter (λ i. not (p i)) xs)) ≡ sum_over f xs
both_parts p f [] = plus_none no_correlation
both_parts p f (x ∷ xs) = one_of_both f (p x) x (filter p xs) (filter (λ i. not (p i)) xs) ∙ ap (plus (f x)) (both_parts p f xs)

-- ---- the first n places

-- over all of them
unfoldable pub summed : (ℕ → Correlation) → ℕ → Correlation
summed f zero = no_correlation
summed f (suc n) = plus (summed f n) (f n)

-- over those that pass a test
unfoldable pub chosen : (ℕ → Bool) → (ℕ → Correlation) → ℕ → Correlation
chosen p f zero = no_correlation
chosen p f (suc n) = plus (chosen p f n) (cond (p n) (f n) no_correlation)

pub summed_is : (f : ℕ → Correlation) (n : ℕ) → sum_over f (range_with_len 0 n) ≡ summed f n
unfolding summed
summed_is f zero = refl
summed_is f (suc n) =
    ap (sum_over f) (from_none n)
    ∙ (sum_over-append f (range_with_len 0 n) (n ∷ [])
    ∙ (λ t. plus (summed_is f n t) (plus_none (f n) t)))

pub summed_from_is : (f : ℕ → Correlation) (at n : ℕ) → sum_over f (range_with_len at n) ≡ summed (λ k. f (at + k)) n
unfolding summed
summed_from_is f at zero = refl
summed_from_is f at (suc n) =
    ap (sum_over f) (range_more at n)
    ∙ (sum_over-append f (range_with_len at n) ((at + n) ∷ [])
    ∙ (λ t. plus (summed_from_is f at n t) (plus_none (f (at + n)) t)))

alone_if : (b : Bool) (f : ℕ → Correlation) (k : ℕ) → sum_over f (cond b (k ∷ []) []) ≡ cond b (f k) no_correlation
alone_if true f k = plus_none (f k)
alone_if false f k = refl

pub chosen_is : (p : ℕ → Bool) (f : ℕ → Correlation) (n : ℕ) → sum_over f (filter p (range_with_len 0 n)) ≡ chosen p f n
unfolding chosen
chosen_is p f zero = refl
chosen_is p f (suc n) =
    ap (λ ks. sum_over f (filter p ks)) (from_none n)
    ∙ (ap (sum_over f) (filter-append p (range_with_len 0 n) (n ∷ []))
    ∙ (sum_over-append f (filter p (range_with_len 0 n)) (filter p (n ∷ []))
    ∙ (λ t. plus (chosen_is p f n t) (alone_if (p n) f n t))))

pub summed_none : (f : ℕ → Correlation) → no_correlation ≡ summed f 0
unfolding summed
summed_none f = refl

pub summed_more : (f : ℕ → Correlation) (n : ℕ) → summed f (n + 1) ≡ plus (summed f n) (f n)
unfolding summed
summed_more f n = ap (summed f) (add-one n)

pub summed_same : (f g : ℕ → Correlation) (n : ℕ) → ((k : ℕ) → k < n → f k ≡ g k) → summed f n ≡ summed g n
unfolding summed
summed_same f g zero same = refl
summed_same f g (suc n) same =
    let before : summed f n ≡ summed g n = summed_same f g n (λ k lt. same k (omega arith)) in
    let here : f n ≡ g n = same n (omega arith) in
    λ t. plus (before t) (here t)

if_yes : (b : Bool) (c : Correlation) → b ≡ true → cond b c no_correlation ≡ c
if_yes b c e = ap (λ x. cond x c no_correlation) e

if_no : (b : Bool) (c : Correlation) → b ≡ false → cond b c no_correlation ≡ no_correlation
if_no b c e = ap (λ x. cond x c no_correlation) e

-- none of the next n places passes
pub none_pass : (p : ℕ → Bool) (f : ℕ → Correlation) (at n : ℕ) → ((k : ℕ) → k < n → p (at + k) ≡ false) → chosen p f (at + n) ≡ chosen p f at
unfolding chosen
none_pass p f at zero fails =
    let e : at + 0 ≡ at = omega arith in
    ap (chosen p f) e
none_pass p f at (suc n) fails =
    let e : at + suc n ≡ suc (at + n) = omega arith in
    let before : chosen p f (at + n) ≡ chosen p f at = none_pass p f at n (λ k lt. fails k (omega arith)) in
    let here : cond (p (at + n)) (f (at + n)) no_correlation ≡ no_correlation = if_no (p (at + n)) (f (at + n)) (fails n (omega arith)) in
    ap (chosen p f) e ∙ ((λ t. plus (before t) (here t)) ∙ plus_none (chosen p f at))

-- all of the next n places pass
pub all_pass : (p : ℕ → Bool) (f : ℕ → Correlation) (at n : ℕ) → ((k : ℕ) → k < n → p (at + k) ≡ true) → chosen p f (at + n) ≡ plus (chosen p f at) (summed (λ k. f (at + k)) n)
unfolding chosen summed
all_pass p f at zero passes =
    let e : at + 0 ≡ at = omega arith in
    ap (chosen p f) e ∙ sym (plus_none (chosen p f at))
all_pass p f at (suc n) passes =
    let e : at + suc n ≡ suc (at + n) = omega arith in
    let sum = summed (λ k. f (at + k)) n in
    let before : chosen p f (at + n) ≡ plus (chosen p f at) sum = all_pass p f at n (λ k lt. passes k (omega arith)) in
    let here : cond (p (at + n)) (f (at + n)) no_correlation ≡ f (at + n) = if_yes (p (at + n)) (f (at + n)) (passes n (omega arith)) in
    ap (chosen p f) e ∙ ((λ t. plus (before t) (here t)) ∙ plus_assoc (chosen p f at) sum (f (at + n)))

-- all of the first n places pass
pub first_pass : (p : ℕ → Bool) (f : ℕ → Correlation) (n : ℕ) → ((k : ℕ) → k < n → p k ≡ true) → chosen p f n ≡ summed f n
unfolding chosen summed
first_pass p f zero passes = refl
first_pass p f (suc n) passes =
    let before : chosen p f n ≡ summed f n = first_pass p f n (λ k lt. passes k (omega arith)) in
    let here : cond (p n) (f n) no_correlation ≡ f n = if_yes (p n) (f n) (passes n (omega arith)) in
    λ t. plus (before t) (here t)
