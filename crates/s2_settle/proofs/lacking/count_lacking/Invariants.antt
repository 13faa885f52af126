use Rattle.std.proofs.Common.{◌≡◌, ◌≤◌, take}
use Rattle.s2_settle.specs.Rests.{lacking}
use Rattle.s2_settle.proofs.lacking.count_lacking.Given as goal

abbrev pub invariant-loop-i : goal.invariant-loop-i
invariant-loop-i l = record {
  few : l.count ≤ l.i;
  are : l.count ≡ lacking (take l.i l.rests);
}
