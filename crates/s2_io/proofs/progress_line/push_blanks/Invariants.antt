use Rattle.std.proofs.Common.{◌≡◌, ◌+◌, length}
use Rattle.s2_io.proofs.progress_line.push_blanks.Given as goal

-- one blank a turn
abbrev pub invariant-blanks : goal.invariant-blanks
invariant-blanks l = length l.line ≡ length l.initial.line + l.counter
