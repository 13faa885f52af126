use Rattle.std.proofs.Common.{◌≡◌, ◌+◌, ◌*◌, ◌≤◌, length}
use Rattle.s2_mode.specs.Mode.{slots_of}
use Rattle.s2_message.specs.Correlation.{IsWithin, correlation_at}
use Rattle.s2_message.specs.Errors.{is_known}
use Rattle.s2_message.proofs.CorrelationSums.{chosen}
use Rattle.s2_message.proofs.correlations.known_correlation.Given as goal

abbrev pub invariant-loop-block : goal.invariant-loop-block
invariant-loop-block l = record {
  is : l.sum ≡ chosen (is_known l.fn.mode) (correlation_at l.received l.sent) (90 + 1476 * l.block);
  most : IsWithin (90 + 36 * l.block) l.sum;
  fit : 16 * l.blocks ≤ slots_of l.fn.mode;
  few : slots_of l.fn.mode ≤ 360;
  long : length l.received ≡ 90 + 90 * slots_of l.fn.mode + 36 * l.blocks;
  same : length l.sent ≡ length l.received;
}
