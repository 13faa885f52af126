use Rattle.std.proofs.Common.{rules, sym, ◌∙◌, ◌+◌, ◌-◌, ◌*◌, get_or}
use Rattle.s2_rows.proofs.Digits.{digit_more}
use Rattle.s2_report.proofs.NumberLemmas.{stops, ends}
use Rattle.s2_report.proofs.number.natural.Goals as goal

pub returns-then-not-is_digit-clause-value : goal.returns-then-not-is_digit-clause-value
returns-then-not-is_digit-clause-value c =
    let (m, here, before) = c.digits.invariant in
    stops c.args.digits.now c.digits.b-index m (search rules) (search rules) before

pub digits-preserved : goal.digits-preserved
digits-preserved c =
    let (m, here, before) = c.digits.invariant in
    (m * 10 + (get_or c.args.digits.now c.digits.b-index 0 - 48), search rules, sym (digit_more c.args.digits.now c.digits.b-index m (search rules) (search rules)) ∙ before)

pub returns-clause-value : goal.returns-clause-value
returns-clause-value c =
    let (m, here, before) = c.digits.invariant in
    ends c.args.digits.now c.digits.b-index c.digits.n m (search rules) (search rules) here before
