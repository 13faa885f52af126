use Rattle.std.proofs.Common.{◌+◌}
use Rattle.s2_bits.specs.Lanes.{HasLanes}
use Rattle.s2_minsum.specs.Rows.{cell}
use Rattle.s2_settle.specs.Nodes.{min1_of, min2_of, min3_of, least_at}
use Rattle.s2_settle.proofs.exchange.three_least_of.Given as goal

abbrev pub invariant-loop-e : goal.invariant-loop-e
invariant-loop-e g l = record {
  min1 : HasLanes g.row.W (λ k. min1_of (λ e. cell l.inputs l.n e (l.at + k)) l.e) l.min1;
  min2 : HasLanes g.row.W (λ k. min2_of (λ e. cell l.inputs l.n e (l.at + k)) l.e) l.min2;
  min3 : HasLanes g.row.W (λ k. min3_of (λ e. cell l.inputs l.n e (l.at + k)) l.e) l.min3;
  places : HasLanes g.row.W (λ k. least_at (λ e. cell l.inputs l.n e (l.at + k)) l.e) l.places;
}
