use Rattle.std.proofs.Common.{◌≡◌, ℕ, ◌+◌, ◌<◌, length, get_or}
use Rattle.s2_matrix.specs.Code.{code_of, members}
use Rattle.s2_minsum.specs.Rows.{entry_at}
use Rattle.s2_minsum.specs.Layout.{entry_of, entry_count, first_row, last_check}
use Rattle.s2_minsum.proofs.layers.Layers.of.Given as goal

abbrev pub invariant-loop-r : goal.invariant-loop-r
invariant-loop-r l = record {
  entries_long : length l.entries.items ≡ first_row l.matrix l.r;
  entries_are : (r e : ℕ) → r < l.r → e < entry_count l.matrix r → entry_at l.entries.items (first_row l.matrix r + e) ≡ entry_of l.matrix.shape (get_or (members (code_of l.matrix) (last_check l.matrix.shape r)) e 0);
  layer_starts_long : length l.layer_starts.items ≡ l.r;
  layer_starts_are : (r : ℕ) → r < l.r → get_or l.layer_starts.items r 0 ≡ first_row l.matrix r;
}
