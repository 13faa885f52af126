use Rattle.std.proofs.Common.{◌≡◌, length, take}
use Rattle.s2_split.proofs.Lesser.{IsWrittenAt}
use Rattle.s2_split.proofs.Counted.{turned_at}
use Rattle.s2_split.proofs.negatives.change_sign.Given as goal

abbrev pub invariant-loop-check : goal.invariant-loop-check
invariant-loop-check l = record {
  long : length l.negatives ≡ length l.initial.negatives;
  written : IsWrittenAt 0 (turned_at l.becomes_negative l.initial.negatives) (take l.check-index l.checks) l.initial.negatives l.negatives;
}
