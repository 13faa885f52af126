use Rattle.std.proofs.Common.{arith, ap, ◌≡◌, ◌∙◌, ◌+◌, ◌-◌}
use Rattle.s2_field.specs.Order.{iterate}
use Rattle.s2_field.proofs.ShiftFacts.{iterate-then}
use Rattle.s2_field.proofs.gf16.arithmetic.raise.Goals as goal

pub returns-else-exponent-le11 : goal.returns-else-exponent-le11
returns-else-exponent-le11 c =
    let whole : 8 + (c.args.exponent - 8) ≡ c.args.exponent = omega arith in
    c.shift_by-else-exponent-le11-2.ensures
    ∙ ap (iterate 16 45 (c.args.exponent - 8)) c.shift_by-else-exponent-le11.ensures
    ∙ iterate-then 16 45 8 (c.args.exponent - 8) c.args.a
    ∙ ap (λ e. iterate 16 45 e c.args.a) whole
