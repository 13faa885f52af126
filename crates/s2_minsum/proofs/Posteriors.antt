-- Posteriors: their bound, and how one changed message changes one of them.
use Rattle.std.proofs.Common.{◌≡◌, ◌≢◌, ℕ, zero, suc, ◌+◌, ◌*◌, ◌<◌, ◌≤◌, Bool, true, cond, List, [], ◌∷◌, length, get_or, filter, ℤ, pos, ◌+ℤ◌, ◌-ℤ◌, unsigned_abs, ap, inl, inr, arith}
use Rattle.std.specs.List.{range_with_len}
use Rattle.std.proofs.lemmas.Bool.{cases_eq}
use Rattle.std.proofs.lemmas.Int.{ints}
use Rattle.s2_matrix.specs.Total.{total, upto}
use Rattle.s2_matrix.specs.Code.{Code, checks_of}
use Rattle.s2_matrix.proofs.Totals.{total-filter, total-within}
use Rattle.s2_mode.specs.Limits.{max_soft}
use Rattle.s2_minsum.specs.Plain.{max_message, max_posterior, State, posterior}

pub total_small : (f : ℕ → ℤ) (m : ℕ) (xs : List ℕ) → ((k : ℕ) → unsigned_abs (f k) ≤ m) → unsigned_abs (total f xs) ≤ m * length xs
total_small f m [] small = omega arith
total_small f m (x ∷ xs) small =
    let rest = total_small f m xs small in
    let one = small x in
    let more : m * length (x ∷ xs) ≡ m + m * length xs = omega arith in
    omega (arith, ints, rest, one, more)

pub posterior_small : (code : Code) (s : State) (i : ℕ) → length (checks_of code i) ≤ 24 → unsigned_abs (get_or s.soft i (pos 0)) ≤ max_soft → ((j : ℕ) → unsigned_abs (s.message j i) ≤ max_message) → unsigned_abs (posterior code s i) ≤ max_posterior
posterior_small code s i few soft small =
    let sum = total_small (λ j. s.message j i) max_message (checks_of code i) small in
    omega (arith, ints, sum, soft, few)

pub posterior_same : (code : Code) (before after : State) (i : ℕ) → after.soft ≡ before.soft → ((k : ℕ) → after.message k i ≡ before.message k i) → posterior code after i ≡ posterior code before i
posterior_same code before after i soft same =
    λ x. get_or (soft x) i (pos 0) +ℤ total (λ j. same j x) (checks_of code i)

-- a sum in which one term changes
change_at : (f g : ℕ → ℤ) (j a n : ℕ) → a ≤ j → j < a + n → ((k : ℕ) → k ≢ j → g k ≡ f k) → total g (range_with_len a n) ≡ total f (range_with_len a n) +ℤ (g j -ℤ f j)
change_at f g j a zero low high same = absurd (omega arith)
change_at f g j a (suc n) low high same = elim (cases_eq a j) [
  | inl is ↦ (
      let rest = total-within g f (a + 1) n (λ k above _. same k (λ e. omega arith)) in
      let new = ap g is in
      let old = ap f is in
      omega (arith, ints, rest, new, old)
      )
  | inr other ↦ (
      let rest = change_at f g j (a + 1) n (omega arith) (omega arith) same in
      let first = same a other in
      omega (arith, ints, rest, first)
      )
]

total_change : (f g : ℕ → ℤ) (p : ℕ → Bool) (j n : ℕ) → j < n → p j ≡ true → ((k : ℕ) → k ≢ j → g k ≡ f k) → total g (filter p (upto n)) ≡ total f (filter p (upto n)) +ℤ (g j -ℤ f j)
total_change f g p j n low passes same =
    let f' = λ (k : ℕ). cond (p k) (f k) (pos 0) in
    let g' = λ (k : ℕ). cond (p k) (g k) (pos 0) in
    let one = total-filter f p (upto n) in
    let two = total-filter g p (upto n) in
    let change = change_at f' g' j 0 n (omega arith) (omega arith) (λ k other. ap (λ v. cond (p k) v (pos 0)) (same k other)) in
    let old : f' j ≡ f j = ap (λ b. cond b (f j) (pos 0)) passes in
    let new : g' j ≡ g j = ap (λ b. cond b (g j) (pos 0)) passes in
    omega (arith, ints, one, two, change, old, new)

-- one changed message changes the posterior of its bit by the difference
pub posterior_change : (code : Code) (before after : State) (j i : ℕ) → after.soft ≡ before.soft → j < code.checks → code.has j i ≡ true → ((k : ℕ) → k ≢ j → after.message k i ≡ before.message k i) → posterior code after i ≡ posterior code before i +ℤ (after.message j i -ℤ before.message j i)
posterior_change code before after j i soft inside has same =
    let f = λ (k : ℕ). before.message k i in
    let g = λ (k : ℕ). after.message k i in
    let sums = total_change f g (λ k. code.has k i) j code.checks inside has same in
    let values = ap (λ vs. get_or vs i (pos 0)) soft in
    omega (arith, ints, sums, values)
