use Rattle.std.proofs.Common.{◌≡◌, ◌+◌, ◌*◌, ◌^◌, ◌≤◌, length}
use Rattle.s2_mode.specs.Mode.{slots_of}
use Rattle.s2_message.specs.Errors.{error_at, is_known}
use Rattle.s2_message.proofs.Sums.{chosen}
use Rattle.s2_message.proofs.distances.known_error.Given as goal

abbrev pub invariant-loop-block : goal.invariant-loop-block
invariant-loop-block l = record {
  is : l.error ≡ chosen (is_known l.fn.mode) (error_at l.received l.sent) (90 + 1476 * l.block);
  most : l.error ≤ 2 ^ 33 * (90 + 36 * l.block);
  fit : 16 * l.blocks ≤ slots_of l.fn.mode;
  few : slots_of l.fn.mode ≤ 360;
  long : length l.received ≡ 90 + 90 * slots_of l.fn.mode + 36 * l.blocks;
  same : length l.sent ≡ length l.received;
}
