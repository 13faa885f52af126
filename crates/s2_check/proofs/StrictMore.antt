-- Whether all rests are strict, some more at a time.
use Rattle.std.proofs.Common.{◌≡◌, ℕ, ◌+◌, ◌-◌, ◌<◌, ◌↔◌, ◌&&◌, IsTrue, Bool, inl, inr, subst, arith}
use Rattle.std.proofs.lemmas.Bool.{cases_lt, and_parts, and_from}

-- the places below a, and n from there on
pub strict_more : (a n b m : ℕ) (before here : Bool) (P Q : ℕ → Type 0) → b ≡ a + n → m ≡ n → ((k : ℕ) → k < n → Q k ↔ P (a + k)) → (IsTrue before ↔ ((i : ℕ) → i < a → P i)) → (IsTrue here ↔ ((k : ℕ) → k < m → Q k)) → IsTrue (before && here) ↔ ((i : ℕ) → i < b → P i)
strict_more a n b m before here P Q end long row earlier own = (
  λ yes' i low. (
      let both = and_parts before here yes' in
      elim (cases_lt i a) [
        | inl less ↦ earlier.0 both.0 i less
        | inr more ↦ (
            let k = i - a in
            let place : a + k ≡ i = omega (arith, more) in
            let lt : k < n = omega (arith, more, low, end) in
            subst P place ((row k lt).0 (own.0 both.1 k (omega (arith, lt, long))))
            )
      ]
      ),
  λ all. and_from before here (earlier.1 (λ i low. all i (omega (arith, low, end)))) (own.1 (λ k low. (row k (omega (arith, low, long))).1 (all (a + k) (omega (arith, low, long, end))))),
)

-- one place more
pub strict_one : (a : ℕ) (before here : Bool) (P : ℕ → Type 0) → (IsTrue before ↔ ((i : ℕ) → i < a → P i)) → (IsTrue here ↔ P a) → IsTrue (before && here) ↔ ((i : ℕ) → i < a + 1 → P i)
strict_one a before here P earlier own = (
  λ yes' i low. (
      let both = and_parts before here yes' in
      elim (cases_lt i a) [
        | inl less ↦ earlier.0 both.0 i less
        | inr more ↦ (let same : a ≡ i = omega (arith, more, low) in subst P same (own.0 both.1))
      ]
      ),
  λ all. and_from before here (earlier.1 (λ i low. all i (omega (arith, low)))) (own.1 (all a (omega arith))),
)
