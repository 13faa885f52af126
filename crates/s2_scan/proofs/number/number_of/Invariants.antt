use Rattle.std.proofs.Common.{◌≡◌, drop}
use Rattle.s2_scan.specs.Pilots.{piloted}
use Rattle.s2_scan.proofs.number.number_of.Given as goal

-- none of those before has pilots
abbrev pub invariant-loop-k : goal.invariant-loop-k
invariant-loop-k l = piloted (drop l.k l.candidates) ≡ piloted l.candidates
