use Rattle.std.proofs.Common.{◌≡◌, ◌++◌, drop}
use Rattle.s2_scan.specs.Lines.{quoted_bytes}
use Rattle.s2_scan.proofs.shell.push_bytes.Given as goal

abbrev pub invariant-loop-k : goal.invariant-loop-k
invariant-loop-k l = l.text.items ++ quoted_bytes (drop l.k l.name) ≡ l.initial.text.items ++ quoted_bytes l.name
