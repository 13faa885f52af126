use Rattle.std.proofs.Common.{◌≡◌, ℕ, ◌<◌, false, get_or}
use Rattle.s2_rows.specs.Text.{is_line_feed}
use Rattle.s2_judging.proofs.hard.cut_line.Given as goal

abbrev pub invariant-loop-at : goal.invariant-loop-at
invariant-loop-at l = (k : ℕ) → k < l.at → is_line_feed (get_or l.text k 0) ≡ false
