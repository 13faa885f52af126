use Rattle.s2_check.proofs.LaneTallies.{AreTallies}
use Rattle.s2_check.proofs.lane_tally.tally_of_vectors.Given as goal

abbrev pub invariant-loop-block : goal.invariant-loop-block
invariant-loop-block l = AreTallies l.sums l.counts l.magnitudes l.block l.shares
