use Rattle.std.proofs.Common.{◌≡◌}
use Rattle.s2_message.specs.Correlation.{IsWithin, correlation_at}
use Rattle.s2_message.proofs.CorrelationSums.{summed}
use Rattle.s2_message.proofs.correlations.whole_correlation.Given as goal

abbrev pub invariant-loop-k : goal.invariant-loop-k
invariant-loop-k l = record {
  is : l.sum ≡ summed (correlation_at l.received l.sent) l.k;
  most : IsWithin l.k l.sum;
}
