-- How amplitudes fall, and that they are right.
use Rattle.std.proofs.Common.{◌≡◌, ◌&&◌, Bool, true, ℕ, zero, suc, ◌+◌, ◌*◌, ◌≤◌, refl, ap, sym, ◌∙◌, arith}
use Rattle.std.proofs.lemmas.Bool.{and_parts}
use Rattle.s2_channel.specs.Gaussian.{nearest, hundredth, greatest_amplitude, amplitude_at, has_variance}
use Rattle.s2_channel.specs.Laws.{VarianceLaw}

pub within : (n : ℕ) → amplitude_at n ≤ greatest_amplitude
unfolding amplitude_at
within zero = omega arith
within (suc n) = let lower = within n in omega (arith, lower)

-- the amplitude so many hundredths of a dB further on
fallen : (hundredths a : ℕ) → ℕ
fallen zero a = a
fallen (suc n) a = fallen n (nearest (a * hundredth))

fallen_is : (n m : ℕ) → fallen n (amplitude_at m) ≡ amplitude_at (m + n)
unfolding fallen amplitude_at
fallen_is zero m = ap amplitude_at (omega arith)
fallen_is (suc n) m = let further : suc m + n ≡ m + suc n = omega arith in fallen_is n (suc m) ∙ ap amplitude_at further

-- whether amplitudes are right at so many tenths of a dB, from one on
all_right : (count tenths a : ℕ) → Bool
all_right zero tenths a = has_variance tenths a
all_right (suc count) tenths a = has_variance tenths a && all_right count (suc tenths) (fallen 10 a)

computed : all_right 500 0 greatest_amplitude ≡ true
unfolding has_variance fallen all_right
computed = refl

-- the amplitude so many tenths of a dB further on is right
right_at : ℕ → Bool
right_at tenths = has_variance tenths (amplitude_at (10 * tenths))

each_right : (count tenths : ℕ) → all_right count tenths (amplitude_at (10 * tenths)) ≡ true → (k : ℕ) → k ≤ count → right_at (tenths + k) ≡ true
unfolding all_right right_at
each_right zero tenths all k few = let here : tenths + k ≡ tenths = omega (arith, few) in ap right_at here ∙ all
each_right (suc count) tenths all zero few = let here : tenths + 0 ≡ tenths = omega arith in ap right_at here ∙ (and_parts _ _ all).0
each_right (suc count) tenths all (suc k) few =
    let next : 10 * tenths + 10 ≡ 10 * suc tenths = omega arith in
    let there : suc tenths + k ≡ tenths + suc k = omega arith in
    let left = ap (λ a. all_right count (suc tenths) a) (fallen_is 10 (10 * tenths) ∙ ap amplitude_at next) in
    ap right_at (sym there) ∙ each_right count (suc tenths) (sym left ∙ (and_parts _ _ all).1) k (omega (arith, few))

first : amplitude_at (10 * 0) ≡ greatest_amplitude
unfolding amplitude_at
first = refl

pub variance : VarianceLaw
unfolding right_at
variance tenths few =
    let same : 0 + tenths ≡ tenths = omega arith in
    ap right_at (sym same) ∙ each_right 500 0 (ap (λ a. all_right 500 0 a) first ∙ computed) tenths few
