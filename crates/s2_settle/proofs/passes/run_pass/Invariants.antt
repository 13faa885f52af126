use Rattle.std.proofs.Common.{◌≡◌, fold}
use Rattle.s2_matrix.specs.Total.{upto}
use Rattle.s2_settle.specs.Layer.{layer, AreLong}
use Rattle.s2_settle.proofs.passes.run_pass.Given as goal

abbrev pub invariant-loop-r : goal.invariant-loop-r
invariant-loop-r l = record {
  long : AreLong l.matrix l.held;
  is : l.held ≡ fold (layer l.matrix l.step) l.initial.held (upto l.r);
}
