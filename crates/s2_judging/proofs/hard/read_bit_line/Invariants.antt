use Rattle.std.proofs.Common.{◌≡◌, ◌-◌, ◌≤◌, ◌++◌, ℕ, List, length, map, vec_len, vec_capacity}
use Rattle.s2_rows.specs.Text.{tokens_of}
use Rattle.s2_rows.specs.Readings.{after}
use Rattle.s2_judging.specs.Hard.{bits_of}
use Rattle.s2_judging.proofs.hard.read_bit_line.Given as goal

-- what was read, and what the tokens that are left go on with
abbrev pub invariant-loop-rest : goal.invariant-loop-rest
invariant-loop-rest g l =
    ((more : List (ℕ × List ℕ)) → after l.initial.values.items (bits_of (l.count - vec_len l.initial.values) (map (λ token. (l.number, token)) (tokens_of l.line) ++ more))
    ≡ after l.values.items (bits_of (l.count - vec_len l.values) (map (λ token. (l.number, token)) (tokens_of l.rest) ++ more)))
    × (l.count ≤ vec_capacity l.values) × (vec_len l.values ≤ l.count)

abbrev pub decreases-loop-rest : goal.decreases-loop-rest
decreases-loop-rest g l = length l.rest
