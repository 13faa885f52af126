use Rattle.std.proofs.Common.{◌≡◌, ℕ, ◌<◌, false, get_or}
use Rattle.s2_report.specs.Entries.{is_blank}
use Rattle.s2_report.proofs.entry.cut_word.Given as goal

abbrev pub invariant-bytes : goal.invariant-bytes
invariant-bytes l = (k : ℕ) → k < l.at → is_blank (get_or l.line k 0) ≡ false
