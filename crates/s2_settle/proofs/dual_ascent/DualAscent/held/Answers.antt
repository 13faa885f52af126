use Rattle.std.proofs.Common.{sym, ap, subst, ◌∙◌}
use Rattle.s2_matrix.specs.Code.{code_of}
use Rattle.s2_check.specs.Moves.{AreMoves}
use Rattle.s2_settle.specs.Holding.{Settling}
use Rattle.s2_settle.proofs.dual_ascent.DualAscent.held.Goals as goal

pub placed-requires-clause-moves : goal.placed-requires-clause-moves
placed-requires-clause-moves c = record {
  word_long = c.requires.word ∙ sym (ap (λ (v : Settling). (code_of v.rows).bits) c.self.view_is);
  moves = subst (AreMoves (code_of c.self.inside.matrix.now)) (sym c.deref.ensures.value) c.self.invariant.moves;
}
