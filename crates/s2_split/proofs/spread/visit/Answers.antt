use Rattle.std.proofs.Common.{refl}
use Rattle.s2_matrix.specs.Code.{code_of}
use Rattle.s2_split.proofs.SpreadSteps.{idle_step}
use Rattle.s2_split.proofs.spread.visit.Goals as goal

pub returns-then-is_idle : goal.returns-then-is_idle
returns-then-is_idle g c = record {
  kept = λ soft word m kept. idle_step (code_of c.args.matrix.now) soft word m c.args.check c.args.rests.now c.args.moves.now kept c.requires.check c.if-moves-check-eq0.true (c.is_idle.ensures c.if-is_idle.true);
  same = λ _. (refl, refl);
  counts_long = refl;
  counted = c.requires.counted;
}
