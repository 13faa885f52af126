use Rattle.std.proofs.Common.{◌≡◌, subst, arith}
use Rattle.std.proofs.lemmas.Grind.{common_steps}
use Rattle.s2_mode.specs.Shape.{Shape}
use Rattle.s2_mode.specs.Mode.{shape_in}
use Rattle.s2_library.specs.Codes.{AreRowsOf}
use Rattle.s2_library.proofs.shelf.code_on.Goals as goal

pub returns-clause-shelved : goal.returns-clause-shelved
returns-clause-shelved c =
    let shape : c.shape.result ≡ shape_in c.args.mode = grind (arith, common_steps) in
    let are : AreRowsOf c.args.text.now (shape_in c.args.mode) c.in_ok-matrix.matrix = subst (λ (s : Shape). AreRowsOf c.args.text.now s c.in_ok-matrix.matrix) shape c.in_ok-matrix.ensures.are in
    record {
      rows = (c.in_ok-matrix.matrix, are, c.in_ok-code.ensures.same.0, c.in_ok-code.ensures.same.1, c.in_ok-code.ensures.same.2);
      standard = c.is_standard.ensures;
    }
