use Rattle.std.proofs.Common.{◌≡◌, ◌++◌, drop}
use Rattle.s2_scan.specs.Lines.{lines_of}
use Rattle.s2_scan.proofs.text.push_lines.Given as goal

abbrev pub invariant-loop-k : goal.invariant-loop-k
invariant-loop-k l = l.text.items ++ lines_of (drop l.k l.candidates) ≡ l.initial.text.items ++ lines_of l.candidates
