use Rattle.std.proofs.Common.{◌≡◌, ℕ, ◌<◌, length}
use Rattle.s2_minsum.specs.Rows.{cell}
use Rattle.s2_minsum.specs.Layout.{bit_of}
use Rattle.s2_settle.specs.Start.{started}
use Rattle.s2_settle.proofs.start.put_rests.Given as goal

abbrev pub invariant-loop-row : goal.invariant-loop-row
invariant-loop-row l = record {
  long : length l.rests ≡ length l.initial.rests;
  are : (row lane : ℕ) → row < l.row → lane < l.n → cell l.rests l.n row lane ≡ started l.soft l.word (bit_of l.matrix.shape row lane);
}
