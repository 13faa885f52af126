use Rattle.std.proofs.Common.{◌↔◌, pos, ◌≤ℤ◌}
use Rattle.s2_split.specs.Kept.{NoneIsNegative}
use Rattle.s2_split.proofs.start.none_negative_between.Given as goal

abbrev pub invariant-loop-i : goal.invariant-loop-i
invariant-loop-i l = (pos 0 ≤ℤ l.least) ↔ NoneIsNegative l.from l.i l.rests
