-- The room that words take.
use Rattle.std.proofs.Common.{◌≡◌, ℕ, ◌+◌, ◌^◌, ◌<◌, ◌≤◌, List, ◌++◌, length, decimal, rules}
use Rattle.std.proofs.lemmas.Fmt.{length-decimal-le}
use Rattle.std.proofs.lemmas.List.{length-append}

-- a number has at most 20 digits
digits_within : (number : ℕ) → number < 2 ^ 64 → length (decimal number) ≤ 20
digits_within number small = search (rules, length-decimal-le 20)

-- a number between words
pub between_within : (old middle new before after : List ℕ) (number : ℕ) → number < 2 ^ 64 → middle ≡ old ++ (before ++ decimal number) → new ≡ middle ++ after
    → length new ≤ length old + (length before + 20) + length after
between_within old middle new before after number small first second = search (rules, digits_within number small, length-append)
