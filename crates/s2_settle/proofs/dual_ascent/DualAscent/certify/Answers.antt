use Rattle.std.proofs.Common.{◌↔◌, IsTrue, List, Bool, Some, None, cond, length, ap, sym, subst, ◌∙◌}
use Rattle.s2_rows.specs.Rows.{Rows}
use Rattle.s2_matrix.specs.Code.{code_of, IsCodeword}
use Rattle.s2_check.specs.Moves.{Move}
use Rattle.s2_check.specs.Strict.{IsStrict}
use Rattle.s2_check.specs.Views.{View}
use Rattle.s2_check.proofs.Lists.{refilled}
use Rattle.s2_settle.specs.Settled.{settled, ended, moved_view}
use Rattle.s2_settle.specs.Placing.{Finds}
use Rattle.s2_settle.specs.Holding.{Settling}
use Rattle.s2_settle.proofs.Makes.{none_settled, found_settled}
use Rattle.s2_settle.proofs.SettledViews.{by_answer}
use Rattle.s2_settle.proofs.dual_ascent.DualAscent.certify.Goals as goal

pub returns-then-not-find_moves-clause-is : goal.returns-then-not-find_moves-clause-is
returns-then-not-find_moves-clause-is c =
    let m = c.self.inside.matrix.now in
    let soft = c.args.soft.now in
    let word = c.args.word.now in
    let find = c.find_moves in
    let rows = ap (λ (v : Settling). v.rows) c.self.view_is in
    let finds = subst (λ (w : List Bool). Finds m (ended m soft w c.args.passes) find.result find.new.moves) c.truths.ensures find.ensures.found in
    ap (λ (r : Rows). settled r soft word c.args.passes) (sym rows) ∙ none_settled m soft word c.args.passes find.result find.new.moves c.if-not-find_moves.true finds

pub returns-clause-is : goal.returns-clause-is
returns-clause-is c =
    let d = c.self.inside in
    let m = d.matrix.now in
    let soft = c.args.soft.now in
    let word = c.args.word.now in
    let find = c.find_moves in
    let rows = ap (λ (v : Settling). v.rows) c.self.view_is in
    let finds = subst (λ (w : List Bool). Finds m (ended m soft w c.args.passes) find.result find.new.moves) c.truths.ensures find.ensures.found in
    let is = found_settled m soft word c.args.passes find.result find.new.moves c.if-not-find_moves.false finds in
    let moves = refilled d.moves.len find.new.moves d.moves.items (sym c.deref_mut-2.ensures.len ∙ ap length c.deref_mut-2.ensures.value) (find.auto.moves ∙ ap length c.deref_mut-2.ensures.value) in
    let view = c.held.ensures ∙ ap (λ (ms : List Move). moved_view m soft word ms) moves in
    let codeword = subst (λ (r : Rows). IsCodeword (code_of r) word) (sym rows) c.requires.codeword in
    let says = subst (λ (v : View). IsTrue c.examine.result.strict ↔ IsStrict m v) view c.examine.ensures.strict in
    ap (λ (r : Rows). settled r soft word c.args.passes) (sym rows) ∙ is ∙ by_answer m soft word codeword find.new.moves c.examine.result.strict says
    ∙ ap (λ (ms : List Move). cond c.examine.result.strict (Some (moved_view m soft word ms)) None) (sym moves)
