-- Lists that agree place by place.
use Rattle.std.proofs.Common.{◌≡◌, ◌⊎◌, ℕ, ◌+◌, ◌<◌, List, subst, sym, inl, inr, arith, slice_index_or}
use Rattle.std.proofs.Math.Nat.{eq-or-lt_of_le}

pub same_more : {A : Type 0} (none : A) (xs ys : List A) (i : ℕ) → ((k : ℕ) → k < i → slice_index_or xs k none ≡ slice_index_or ys k none) → slice_index_or xs i none ≡ slice_index_or ys i none → (k : ℕ) → k < i + 1 → slice_index_or xs k none ≡ slice_index_or ys k none
same_more none xs ys i before here k h = by_case (eq-or-lt_of_le (omega (arith, h)))
  where
    by_case : (k ≡ i) ⊎ (k < i) → slice_index_or xs k none ≡ slice_index_or ys k none
    by_case (inl e) = subst (λ j. slice_index_or xs j none ≡ slice_index_or ys j none) (sym e) here
    by_case (inr lt) = before k lt
