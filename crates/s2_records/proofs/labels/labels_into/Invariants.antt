use Rattle.std.proofs.Common.{◌≡◌, ℕ, ◌<◌}
use Rattle.std.specs.Prelude.{slice_index_or}
use Rattle.s2_records.specs.Vectors.{label_at}
use Rattle.s2_records.proofs.labels.labels_into.Given as goal

abbrev pub invariant-loop-s : goal.invariant-loop-s
invariant-loop-s l = (k : ℕ) → k < l.s → slice_index_or l.labels k 0 ≡ label_at l.mode l.codeword k
