use Rattle.std.proofs.Common.{rules, ◌∙◌}
use Rattle.std.proofs.lemmas.Result.{err_from_is_err_and}
use Rattle.s2_rows.proofs.RowLines.{adds_token, refuses_token, row_ends}
use Rattle.s2_rows.proofs.row_file.read_row.Goals as goal

pub returns-in_err-add_token : goal.returns-in_err-add_token
returns-in_err-add_token c =
    let p = err_from_is_err_and c.from_residual.result c.from_residual.ensures.1 in
    rw (p.1, p.2) (c.loop-rest.invariant ∙ refuses_token _ _ _ _ _ _ c.cut_token.ensures.pieces (search rules) c.in_err-add_token.field-0.0 c.in_err-add_token.ensures)

pub loop-rest-preserved-in_ok-add_token : goal.loop-rest-preserved-in_ok-add_token
loop-rest-preserved-in_ok-add_token c = c.loop-rest.invariant ∙ adds_token _ _ _ _ _ _ c.cut_token.ensures.pieces (search rules) _ c.in_ok-add_token.ensures

pub returns : goal.returns
returns c = c.loop-rest.invariant ∙ row_ends _ _ _ _ (search rules)
