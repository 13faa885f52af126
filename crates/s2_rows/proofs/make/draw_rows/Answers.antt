use Rattle.std.proofs.Common.{rules, arith, ◌≡◌, ◌+◌, ◌-◌, ◌<◌, ◌≤◌, nat_le, true, ◌++◌, [], ◌∷◌, Ok, sym, ap, ◌∙◌}
use Rattle.std.proofs.lemmas.Bool.{cond-true, and_from, le-leb}
use Rattle.s2_mode.specs.Shape.{check_count}
use Rattle.s2_rows.specs.MadeRows.{drawn_row, drawn_rows}
use Rattle.s2_rows.proofs.Afters.{map_push}
use Rattle.s2_rows.proofs.DrawnRows.{draws_row, rows_are_drawn}
use Rattle.s2_rows.proofs.make.draw_rows.Goals as goal

pub loop-made-preserved : goal.loop-made-preserved
loop-made-preserved g c =
    let pushed : c.push.new.self.items ≡ c.loop-made.rows.items ++ c.draw_row.result ∷ [] = search rules in
    let items = map_push (λ row. row.items) _ _ _ pushed in
    let drawn : (c.draw_row.result.items, c.draw_row.new.generator) ≡ drawn_row (check_count c.args.shape) c.args.weight [] c.loop-made.generator = search rules in
    let below : c.loop-made._made < c.args.shape.groups = search rules in
    (c.loop-made.invariant.0 ∙ draws_row _ _ _ _ _ _ _ _ below drawn ∙ ap (λ rows. rows ++ drawn_rows (check_count c.args.shape) c.args.weight (c.args.shape.groups - (c.loop-made._made + 1)) c.draw_row.new.generator) (sym items), search rules, search rules)

pub returns-clause-made : goal.returns-clause-made
returns-clause-made g c =
    let end : c.args.shape.groups ≤ c.loop-made._made = search rules in
    let some : nat_le 1 c.args.weight ≡ true = le-leb 1 c.args.weight (omega arith) in
    let few : nat_le c.args.weight 24 ≡ true = le-leb c.args.weight 24 (omega arith) in
    let free : nat_le c.args.weight (check_count c.args.shape) ≡ true = le-leb c.args.weight (check_count c.args.shape) (omega (arith, c.checks-checks.ensures.is)) in
    cond-true _ _ _ (and_from _ _ some (and_from _ _ few free)) ∙ ap Ok (c.loop-made.invariant.0 ∙ rows_are_drawn _ _ _ _ _ _ end)
