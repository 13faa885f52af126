-- Sums and counts over the numbers below n, one more at a time.
use Rattle.std.proofs.Common.{◌≡◌, ℕ, ◌+◌, cond, Bool, ap, refl, sym, ◌∙◌}
use Rattle.std.specs.List.{count_by, range_with_len, sum_by}
use Rattle.std.proofs.lemmas.List.Sums.{sum_by_push}
use Rattle.s2_scan.proofs.Ranges.{below_more}

pub total_more : (f : ℕ → ℕ) (n : ℕ) → sum_by f (range_with_len 0 n) + f n ≡ sum_by f (range_with_len 0 (n + 1))
total_more f n = sym (ap (sum_by f) (below_more n) ∙ sum_by_push f (range_with_len 0 n) n)

pub count_more : (p : ℕ → Bool) (n : ℕ) → count_by p (range_with_len 0 n) + cond (p n) 1 0 ≡ count_by p (range_with_len 0 (n + 1))
count_more p n = total_more (λ k. cond (p k) 1 0) n
