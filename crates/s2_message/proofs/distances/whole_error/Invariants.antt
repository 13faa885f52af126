use Rattle.std.proofs.Common.{◌≡◌, ◌*◌, ◌^◌, ◌≤◌}
use Rattle.s2_message.specs.Errors.{error_at}
use Rattle.s2_message.proofs.Sums.{summed}
use Rattle.s2_message.proofs.distances.whole_error.Given as goal

abbrev pub invariant-loop-k : goal.invariant-loop-k
invariant-loop-k l = record {
  is : l.error ≡ summed (error_at l.received l.sent) l.k;
  most : l.error ≤ 2 ^ 33 * l.k;
}
