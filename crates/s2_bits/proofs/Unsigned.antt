-- Operations on vectors of numbers without a sign.
use Rattle.std.proofs.Common.{◌≡◌, ℕ, ◌-◌, ◌^◌, ◌<◌, suc, min, max, Bool, false, cond, ltb, List, [], ◌∷◌, length, get_or, map, ap, sym, subst, ◌∙◌, arith}
use Rattle.std.proofs.lemmas.Bool.Decides.{nat_tests}
use Rattle.std.proofs.lemmas.Simd.{get_or-zip2, length-zip2, length-sel_l, get_or-sel_l, tops_compared}
use Rattle.std.specs.Simd.Lanes.{zip2, sel_l, top, Each2}
use mir.Syntax.{Width}
use mir.Val.{bits, hbits}
use Rattle.s2_bits.specs.Lanes.{HasLanes}

-- a choice by a comparison of two vectors of n lanes
pub choice : (w : Width) (n : ℕ) (t : ℕ → ℕ → Bool) (f : ℕ → ℕ) (a b x y : List ℕ) → length a ≡ n → length b ≡ n → length x ≡ n → length y ≡ n
    → ((k : ℕ) → k < n → cond (t (get_or a k 0) (get_or b k 0)) (get_or x k 0) (get_or y k 0) ≡ f k)
    → HasLanes n f (sel_l (map (top (hbits w)) (zip2 (λ a b. cond (t a b) (2 ^ bits w - 1) 0) a b)) x y)
choice w n t f a b x y la lb lx ly is =
    let l2 : length (zip2 t a b) ≡ n = length-zip2 t a b (la ∙ sym lb) ∙ la in
    subst (λ ms. HasLanes n f (sel_l ms x y)) (sym (tops_compared w t a b))
    (record {
      long = length-sel_l (zip2 t a b) x y (l2 ∙ sym lx) (l2 ∙ sym ly) ∙ l2;
      each = λ k lt.
          get_or-sel_l (zip2 t a b) x y k 0 (omega arith) (omega arith) (omega arith)
          ∙ (ap (λ v. cond v (get_or x k 0) (get_or y k 0)) (get_or-zip2 t a b k 0 0 false (omega arith) (omega arith)) ∙ is k lt);
    })

pub min_by : (a b : ℕ) → cond (ltb a b) a b ≡ min a b
min_by a b = grind (arith, nat_tests)

pub max_by : (a b : ℕ) → cond (ltb a b) b a ≡ max a b
max_by a b = grind (arith, nat_tests)

-- an operator of two vectors
pub operator : (n : ℕ) (op : ℕ → ℕ → ℕ) (a b : List ℕ) → length a ≡ n → length b ≡ n → HasLanes n (λ k. op (get_or a k 0) (get_or b k 0)) (zip2 op a b)
operator n op a b la lb = record {
  long = length-zip2 op a b (la ∙ sym lb) ∙ la;
  each = λ k lt. get_or-zip2 op a b k 0 0 0 (omega arith) (omega arith);
}

-- what an operation asks of two vectors
pub asks : (P : ℕ → ℕ → Type 0) (a b : List ℕ) → length a ≡ length b → ((k : ℕ) → k < length a → P (get_or a k 0) (get_or b k 0)) → Each2 P a b
asks P [] ys e h = tt
asks P (x ∷ xs) [] e h = tt
asks P (x ∷ xs) (y ∷ ys) e h = (h 0 (omega arith), asks P xs ys (omega arith) (λ k lt. h (suc k) (omega arith)))
