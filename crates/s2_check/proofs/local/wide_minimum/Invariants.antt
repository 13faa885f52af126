use Rattle.s2_check.proofs.Least.{IsTally}
use Rattle.s2_check.proofs.local.wide_minimum.Given as goal

abbrev pub invariant-loop-at : goal.invariant-loop-at
invariant-loop-at l = IsTally l.tally.negative_sum l.tally.negative_count l.tally.least_magnitude l.at l.shares
