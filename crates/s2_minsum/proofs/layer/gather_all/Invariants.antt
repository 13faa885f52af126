use Rattle.std.proofs.Common.{◌≡◌, ℕ, ◌<◌, length}
use Rattle.s2_bits.specs.Lanes16.{minus16}
use Rattle.s2_minsum.specs.Rows.{rotated, entry_at, cell}
use Rattle.s2_minsum.proofs.layer.gather_all.Given as goal

abbrev pub invariant-loop-e : goal.invariant-loop-e
invariant-loop-e l = record {
  long : length l.inputs ≡ length l.initial.inputs;
  are : (e c : ℕ) → e < l.e → c < l.n → cell l.inputs l.n e c ≡ minus16 (cell l.posteriors l.n (entry_at l.entries e).row (rotated l.n (entry_at l.entries e).shift c)) (cell l.messages l.n e c);
}
