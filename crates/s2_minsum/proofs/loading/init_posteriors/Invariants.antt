use Rattle.std.proofs.Common.{◌≡◌, ℕ, ◌<◌, get_or, pos}
use Rattle.s2_bits.specs.Lanes16.{signed16}
use Rattle.s2_minsum.specs.Rows.{cell}
use Rattle.s2_minsum.specs.Layout.{bit_of}
use Rattle.s2_minsum.proofs.loading.init_posteriors.Given as goal

abbrev pub invariant-loop-row : goal.invariant-loop-row
invariant-loop-row l = record {
  fits : (k : ℕ) → get_or l.posteriors k 0 < 65536;
  are : (row lane : ℕ) → row < l.row → lane < l.n → signed16 (cell l.posteriors l.n row lane) ≡ get_or l.soft (bit_of l.matrix.shape row lane) (pos 0);
}
