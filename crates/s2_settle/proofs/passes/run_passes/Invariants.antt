use Rattle.std.proofs.Common.{◌≡◌, ◌+◌, ◌≤◌, ℕ}
use Rattle.s2_matrix.specs.Code.{code_of}
use Rattle.s2_settle.specs.Plain.{State, passes}
use Rattle.s2_settle.specs.Layer.{AreLong}
use Rattle.s2_settle.specs.Shows.{IsShown}
use Rattle.s2_settle.proofs.PlainPasses.{IsPassed}
use Rattle.s2_settle.proofs.passes.run_passes.Given as goal

abbrev pub invariant-loop-pass : goal.invariant-loop-pass
invariant-loop-pass l = record {
  long : AreLong l.matrix l.held;
  before : l.course.before ≤ 64800;
  left : (k : ℕ) → k + l.pass ≡ l.passes → (s : State) → IsShown l.matrix l.initial.held s → IsPassed l.matrix k l.pass l.course l.held (passes (code_of l.matrix) l.matrix.shape.q l.passes 0 l.fn.first s);
}
