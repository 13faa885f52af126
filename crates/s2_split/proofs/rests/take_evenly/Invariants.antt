use Rattle.std.proofs.Common.{◌≡◌, length, get_or, take, pos, ◌-ℤ◌}
use Rattle.s2_split.proofs.Lesser.{IsWrittenAt}
use Rattle.s2_split.proofs.rests.take_evenly.Given as goal

abbrev pub invariant-loop-member : goal.invariant-loop-member
invariant-loop-member l = record {
  long : length l.rests ≡ length l.initial.rests;
  written : IsWrittenAt (pos 0) (λ k. get_or l.initial.rests k (pos 0) -ℤ l.amount) (take l.member-index l.members) l.initial.rests l.rests;
}
