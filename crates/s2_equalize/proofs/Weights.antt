-- What blocks count together, and smoothed gains by their places.
use Rattle.std.proofs.Common.{◌≡◌, ℕ, ◌+◌, ◌-◌, ◌<◌, cond, List, length, refl, ap, sym, add-one, arith}
use Rattle.std.proofs.lemmas.Bool.{lt-leb, le-leb}
use Rattle.s2_equalize.specs.declared.complex.Complex.{Complex}
use Rattle.s2_equalize.specs.Complex.{over, times}
use Rattle.s2_equalize.specs.Gains.{mean_gain, smoothed_gain, weight, weights}

pub weights_none : (at : ℕ) → 0 ≡ weights at 0
unfolding weights
weights_none at = refl

pub weights_more : (at n : ℕ) → weights at (n + 1) ≡ weights at n + weight (at + n)
unfolding weights
weights_more at n = ap (weights at) (add-one n)

-- the smoothed gain of a block is its mean
pub inside_is : (gains : List Complex) (c : Complex) (k : ℕ) → k < length gains → mean_gain gains c k ≡ smoothed_gain gains c k
unfolding smoothed_gain
inside_is gains c k lt =
    sym (ap (λ b. cond b (over 32768 (times (mean_gain gains c (length gains - 1)) c)) (mean_gain gains c k)) (lt-leb (length gains) k lt))

-- that of the block behind the last is the last, turned once more
pub behind_is : (gains : List Complex) (c : Complex) → over 32768 (times (mean_gain gains c (length gains - 1)) c) ≡ smoothed_gain gains c (length gains)
unfolding smoothed_gain
behind_is gains c =
    sym (ap (λ b. cond b (over 32768 (times (mean_gain gains c (length gains - 1)) c)) (mean_gain gains c (length gains))) (le-leb (length gains) (length gains) (omega arith)))
