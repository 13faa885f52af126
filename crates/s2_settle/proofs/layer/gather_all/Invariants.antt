use Rattle.std.proofs.Common.{◌≡◌, ℕ, ◌<◌, length, get_or}
use Rattle.s2_minsum.specs.Rows.{rotated, entry_at, cell}
use Rattle.s2_settle.specs.Rests.{given}
use Rattle.s2_settle.proofs.layer.gather_all.Given as goal

abbrev pub invariant-loop-e : goal.invariant-loop-e
invariant-loop-e l = record {
  long : length l.inputs ≡ length l.initial.inputs;
  are : (e c : ℕ) → e < l.e → c < l.n → cell l.inputs l.n e c ≡ given (cell l.rests l.n (entry_at l.entries e).row (rotated l.n (entry_at l.entries e).shift c)) (get_or l.targets c 0) (get_or l.amounts c 0) e;
}
