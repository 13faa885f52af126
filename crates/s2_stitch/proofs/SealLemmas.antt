-- Sums of numbers that a function gives place by place.
use Rattle.std.proofs.Common.{◌≡◌, ℕ, ◌+◌, ◌<◌, ◌≤◌, fold, take, map, sym, ap, ◌∙◌, arith}
use Rattle.std.proofs.lemmas.List.{take_all}
use Rattle.std.proofs.lemmas.List.Sums.{fold_more}
use Rattle.s2_certfile.specs.Field.{places}
use Rattle.s2_certfile.proofs.EntryLemmas.{length-listed, listed_at}
use Rattle.s2_stitch.specs.Records.{sum_step}

-- with one number more
pub sum_more : (f : ℕ → ℕ) (n k start sum number new : ℕ) → k < n → sum ≡ fold sum_step start (take k (map f (places n))) → number ≡ f k → new ≡ sum_step sum number → new ≡ fold sum_step start (take (k + 1) (map f (places n)))
sum_more f n k start sum number new low so is step =
    step ∙ (λ i. sum_step (so i) ((is ∙ sym (listed_at f n k low)) i)) ∙ sym (fold_more sum_step start (map f (places n)) k 0 (omega (arith, low, length-listed f n)))

-- with all of them
pub sum_all : (f : ℕ → ℕ) (n k start sum : ℕ) → n ≤ k → sum ≡ fold sum_step start (take k (map f (places n))) → sum ≡ fold sum_step start (map f (places n))
sum_all f n k start sum all so = so ∙ ap (fold sum_step start) (take_all k (map f (places n)) (omega (arith, all, length-listed f n)))
