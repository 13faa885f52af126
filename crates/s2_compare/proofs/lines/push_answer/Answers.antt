use Rattle.std.proofs.Common.{◌≡◌, ℕ, ℤ, List, ◌++◌, SFits, w64, rules, sym, ap, ◌∙◌}
use Rattle.std.specs.Prelude.{codes}
use Rattle.std.specs.Fmt.{signed_decimal}
use Rattle.std.proofs.lemmas.Int.{to_z-of_z}
use Rattle.s2_compare.specs.Lines.{answer_text, changed_text}
use Rattle.s2_compare.proofs.lines.push_answer.Goals as goal

pub returns-in-Equal-clause-text : goal.returns-in-Equal-clause-text
returns-in-Equal-clause-text c =
    let fits : SFits w64 c.in-Equal.cost = search rules in
    c.push_number.ensures.bytes
    ∙ ap (λ (t : List ℕ). t ++ changed_text c.in-Equal.changed) (c.push_cost-in-Equal.ensures.text ∙ ap (λ (z : ℤ). c.args.line.now ++ (codes " equal cost " ++ signed_decimal z)) (to_z-of_z w64 c.in-Equal.cost fits))
    ∙ sym (ap (answer_text c.args.line.now) c.in-Equal.is)

pub returns-in-Worse-clause-text : goal.returns-in-Worse-clause-text
returns-in-Worse-clause-text c =
    let fits : SFits w64 c.in-Worse.cost = search rules in
    let best_fits : SFits w64 c.in-Worse.best = search rules in
    let front = c.push_cost-in-Worse.ensures.text ∙ ap (λ (z : ℤ). c.args.line.now ++ (codes " worse cost " ++ signed_decimal z)) (to_z-of_z w64 c.in-Worse.cost fits) in
    c.push_number-in-Worse.ensures.bytes
    ∙ ap (λ (t : List ℕ). t ++ changed_text c.in-Worse.changed) (c.push_cost-in-Worse-2.ensures.text ∙ ap (λ (z : ℤ). c.push_cost-in-Worse.new.line ++ (codes " best " ++ signed_decimal z)) (to_z-of_z w64 c.in-Worse.best best_fits)
    ∙ ap (λ (t : List ℕ). t ++ (codes " best " ++ signed_decimal c.in-Worse.best)) front)
    ∙ sym (ap (answer_text c.args.line.now) c.in-Worse.is)

pub returns-in-NoCodeword-clause-text : goal.returns-in-NoCodeword-clause-text
returns-in-NoCodeword-clause-text c =
    c.push_number-in-NoCodeword-2.ensures.bytes ∙ ap (λ (t : List ℕ). t ++ changed_text c.in-NoCodeword.changed) c.push_number-in-NoCodeword.ensures.bytes ∙ sym (ap (answer_text c.args.line.now) c.in-NoCodeword.is)
