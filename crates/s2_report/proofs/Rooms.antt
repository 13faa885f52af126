-- The room that numbers of 64 bits take.
use Rattle.std.proofs.Common.{◌≡◌, ℕ, ℤ, ◌+◌, ◌^◌, ◌<◌, ◌≤◌, List, ◌++◌, length, decimal, rules, SFits, w64, ap, ◌∙◌, arith}
use Rattle.std.specs.Fmt.{signed_decimal}
use Rattle.std.proofs.lemmas.Fmt.{length-decimal-le, length_signed_le}
use Rattle.std.proofs.lemmas.List.{length-append}

-- without a sign it has at most 20 digits
digits_within : (n : ℕ) → n < 2 ^ 64 → length (decimal n) ≤ 20
digits_within n small = search (rules, length-decimal-le 20)

-- with a sign it has at most 19, and the sign
signed_within : (z : ℤ) → SFits w64 z → length (signed_decimal z) ≤ 20
signed_within z fits = search (rules, length_signed_le 19, fits.sfits)

-- after words
pub count_within : (old new before : List ℕ) (n : ℕ) → n < 2 ^ 64 → new ≡ old ++ (before ++ decimal n) → length new ≤ length old + (length before + 20)
count_within old new before n small is =
    omega (arith, ap length is, length-append old (before ++ decimal n), length-append before (decimal n), digits_within n small)

pub number_within : (old new before : List ℕ) (z : ℤ) → SFits w64 z → new ≡ old ++ (before ++ signed_decimal z) → length new ≤ length old + (length before + 20)
number_within old new before z fits is =
    omega (arith, ap length is, length-append old (before ++ signed_decimal z), length-append before (signed_decimal z), signed_within z fits)

-- bytes that were appended
pub pushed : (old new bytes : List ℕ) → new ≡ old ++ bytes → length new ≡ length old + length bytes
pushed old new bytes is = ap length is ∙ length-append old bytes
