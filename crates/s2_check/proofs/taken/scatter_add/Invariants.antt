use Rattle.std.proofs.Common.{◌≡◌, ℕ, ◌%◌, ◌^◌, ◌<◌, length, get_or}
use Rattle.s2_matrix.specs.Code.{code_of}
use Rattle.s2_check.specs.Taken.{given}
use Rattle.s2_check.proofs.taken.scatter_add.Given as goal

abbrev pub invariant-loop-check : goal.invariant-loop-check
invariant-loop-check l = record {
  long : length l.gives ≡ (code_of l.matrix).bits;
  are : (i : ℕ) → i < (code_of l.matrix).bits → get_or l.gives i 0 ≡ given (code_of l.matrix) l.moves l.check i % 2 ^ 32;
}
