use Rattle.std.proofs.Common.{rules, arith, ◌≡◌, ◌%◌, ◌++◌, [], ◌∷◌, length, sym, ◌∙◌}
use Rattle.rand_pcg.specs.Pcg.{pcg32}
use Rattle.s2_rows.specs.MadeRows.{free_from}
use Rattle.s2_rows.proofs.DrawnRows.{draws_address, row_is_drawn}
use Rattle.s2_rows.proofs.make.draw_row.Goals as goal

pub loop-drawn-preserved : goal.loop-drawn-preserved
loop-drawn-preserved c =
    let word : (c.next_word.result, c.next_word.new.self) ≡ pcg32 c.loop-drawn.generator = search rules in
    let address : c.free_from-address.result ≡ free_from c.args.checks c.loop-drawn.row.items (length c.loop-drawn.row.items) (c.next_word.result % c.args.checks) = search rules in
    let pushed : c.push.new.self.items ≡ c.loop-drawn.row.items ++ c.free_from-address.result ∷ [] = search rules in
    (c.loop-drawn.invariant.0 ∙ draws_address _ _ _ _ _ _ _ _ _ c.loop-drawn-test.true word address pushed, search rules)

pub returns : goal.returns
returns c = sym (c.loop-drawn.invariant.0 ∙ row_is_drawn _ _ _ _ _ (omega arith))
