use Rattle.std.proofs.Common.{arith, ap, ◌≡◌, ◌∙◌, ◌+◌, ◌-◌}
use Rattle.s2_field.specs.Order.{iterate}
use Rattle.s2_field.proofs.ShiftFacts.{iterate-then}
use Rattle.s2_field.proofs.gf14.arithmetic.raise.Goals as goal

pub returns-else-exponent-le9-clause-value : goal.returns-else-exponent-le9-clause-value
returns-else-exponent-le9-clause-value c =
    let whole : 8 + (c.args.exponent - 8) ≡ c.args.exponent = omega arith in
    c.shift_by-else-exponent-le9-2.ensures.value
    ∙ ap (iterate 14 43 (c.args.exponent - 8)) c.shift_by-else-exponent-le9.ensures.value
    ∙ iterate-then 14 43 8 (c.args.exponent - 8) c.args.a
    ∙ ap (λ e. iterate 14 43 e c.args.a) whole
