use Rattle.std.proofs.Common.{◌≡◌, ◌-◌, ◌+◌, ◌≤◌, length, vec_len, vec_capacity}
use Rattle.s2_rows.specs.Text.{lines_of}
use Rattle.s2_rows.specs.Readings.{after}
use Rattle.s2_rows.specs.Values.{tokens_from}
use Rattle.s2_judging.specs.Hard.{bits_of, bits_of_text}
use Rattle.s2_judging.proofs.hard.read_bits.Given as goal

-- what was read, and what the lines that are left go on with
abbrev pub invariant-loop-rest : goal.invariant-loop-rest
invariant-loop-rest g l =
    (bits_of_text l.text l.count ≡ after l.values.items (bits_of (l.count - vec_len l.values) (tokens_from l.number (lines_of l.rest))))
    × (l.count ≤ vec_capacity l.values) × (vec_len l.values ≤ l.count) × (l.number + length l.rest ≤ 1 + length l.text)

abbrev pub decreases-loop-rest : goal.decreases-loop-rest
decreases-loop-rest g l = length l.rest
