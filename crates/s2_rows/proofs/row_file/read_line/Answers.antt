use Rattle.std.proofs.Common.{rules, arith, ap, ◌∙◌, ◌≡◌, ◌-◌, [], ◌∷◌, ◌++◌, refl, vec_len}
use Rattle.std.proofs.lemmas.Result.{err_from_is_err_and}
use Rattle.s2_rows.specs.Readings.{after}
use Rattle.s2_rows.proofs.Afters.{map_push}
use Rattle.s2_rows.proofs.RowLines.{passes_over, too_many_rows, adds_row, refuses_row}
use Rattle.s2_rows.proofs.row_file.read_line.Goals as goal

pub returns-then-is_ignored-clause-read : goal.returns-then-is_ignored-clause-read
returns-then-is_ignored-clause-read g c = λ lines. ap (after _) (passes_over _ _ _ _ lines (search rules))

pub returns-then-len-groups-clause-read : goal.returns-then-len-groups-clause-read
returns-then-len-groups-clause-read g c = λ lines. ap (after _) (too_many_rows _ _ _ _ lines (search rules) (omega arith))

pub returns-in_err-row-clause-read : goal.returns-in_err-row-clause-read
returns-in_err-row-clause-read g c = λ lines.
    let p = err_from_is_err_and c.from_residual.result c.from_residual.ensures.1 in
    let read = rw (c.checks.ensures.is) at c.in_err-row.ensures in
    rw (p.1, p.2) (refuses_row _ _ _ _ lines _ c.in_err-row.field-0.0 (search rules) (omega arith) read)

pub returns-clause-read : goal.returns-clause-read
returns-clause-read g c = λ lines.
    let read = rw (c.checks.ensures.is) at c.in_ok-row.ensures in
    let pushed : c.push.new.self.items ≡ c.args.rows.now.items ++ c.in_ok-row.row ∷ [] = search rules in
    let items = map_push (λ row. row.items) _ _ _ pushed in
    let left : c.args.shape.groups - vec_len c.push.new.self ≡ c.args.shape.groups - vec_len c.args.rows.now - 1 = search rules in
    adds_row _ _ _ _ lines _ c.in_ok-row.row.items (search rules) (omega arith) read ∙ rw (items, left) refl
