use Rattle.std.proofs.Common.{◌≡◌, drop}
use Rattle.s2_scan.specs.Lines.{are_plain}
use Rattle.s2_scan.proofs.shell.are_plain.Given as goal

-- all bytes before are
abbrev pub invariant-loop-k : goal.invariant-loop-k
invariant-loop-k l = are_plain (drop l.k l.name) ≡ are_plain l.name
