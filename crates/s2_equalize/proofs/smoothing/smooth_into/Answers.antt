use Rattle.std.proofs.Common.{◌≡◌, ◌≢◌, ℕ, ◌+◌, ◌-◌, ◌<◌, List, length, set, pos, inl, inr, get_or-set_other, get_or-set_same, ap, ap₂, subst, ◌∙◌, arith}
use Rattle.std.proofs.lemmas.Bool.{cases_lt}
use Rattle.std.proofs.lemmas.List.{length-set}
use Rattle.std.proofs.lemmas.List.FromFn.{fill_by_all}
use Rattle.s2_equalize.specs.declared.complex.Complex.{Complex}
use Rattle.s2_equalize.specs.Bounds.{mean_bound, smoothed_bound}
use Rattle.s2_equalize.specs.Complex.{IsWithin, complex, complex_at, over, times}
use Rattle.s2_equalize.specs.Gains.{mean_gain, smoothed, smoothed_gain, turn}
use Rattle.s2_equalize.proofs.Sizes.{within_more}
use Rattle.s2_equalize.proofs.Weights.{behind_is, inside_is}
use Rattle.s2_equalize.proofs.smoothing.smooth_into.Goals as goal

-- the places of a list whose last place is written
written : (xs : List Complex) (n : ℕ) (x : Complex) (P : ℕ → Complex → Type 0) → length xs ≡ n + 1 → ((k : ℕ) → k < n → P k (complex_at xs k)) → P n x
    → (k : ℕ) → k < n + 1 → P k (complex_at (set xs n x) k)
written xs n x P long before last k lt =
    elim (cases_lt k n) [
      | inl less ↦
          let ne : k ≢ n = omega (arith, less) in
          rw get_or-set_other (before k less)
      | inr more ↦
          let same : n ≡ k = omega (arith, more, lt) in
          let inside : n < length xs = omega (arith, long) in
          subst (λ j. P j (complex_at (set xs n x) j)) same (rw get_or-set_same last)
    ]

pub returns-clause-is : goal.returns-clause-is
unfolding smoothed
returns-clause-is c =
    let gains = c.args.gains.now in
    let n = length gains in
    let long : length c.loop-k.smoothed ≡ n + 1 = omega arith in
    let turning = c.turn-turn.ensures.is in
    let mean = c.loop-k.invariant.done in
    let last = c.turned_once.ensures.is
    ∙ (ap₂ (λ (a : Complex) (b : Complex). over 32768 (times a b)) (mean (n - 1) (omega arith) ∙ ap (λ (x : Complex). mean_gain gains x (n - 1)) turning) turning ∙ behind_is gains (turn gains)) in
    fill_by_all (smoothed_gain gains (turn gains)) (set c.loop-k.smoothed n c.turned_once.result) (n + 1) (complex (pos 0) (pos 0)) (simp length-set long)
    (written c.loop-k.smoothed n c.turned_once.result (λ k x. x ≡ smoothed_gain gains (turn gains) k) long
    (λ k lt. mean k (omega arith) ∙ (ap (λ (x : Complex). mean_gain gains x k) turning ∙ inside_is gains (turn gains) k lt)) last)

pub returns-clause-most : goal.returns-clause-most
returns-clause-most c =
    let n = length c.args.gains.now in
    let long : length c.loop-k.smoothed ≡ n + 1 = omega arith in
    let most = c.loop-k.invariant.most in
    let same : length (set c.loop-k.smoothed n c.turned_once.result) ≡ n + 1 = simp length-set long in
    λ k lt. written c.loop-k.smoothed n c.turned_once.result (λ j x. IsWithin smoothed_bound x) long
    (λ j less. within_more mean_bound smoothed_bound (complex_at c.loop-k.smoothed j) (omega arith) (most j (omega arith)))
    (c.turned_once.ensures.most mean_bound (most (n - 1) (omega arith))) k (omega (arith, lt, same))
