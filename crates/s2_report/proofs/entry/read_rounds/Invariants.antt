use Rattle.std.proofs.Common.{◌≡◌, length}
use Rattle.s2_report.specs.Entries.{rounds_in, words_of}
use Rattle.s2_report.proofs.entry.read_rounds.Given as goal

-- the words before these say no rounds
abbrev pub invariant-words : goal.invariant-words
invariant-words l = rounds_in (words_of l.fn.line) ≡ rounds_in (words_of l.rest)

abbrev pub decreases-words : goal.decreases-words
decreases-words l = length (words_of l.rest)
