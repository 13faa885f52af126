use Rattle.std.proofs.Common.{arith, ◌∙◌, ap, ◌-◌, ◌/◌}
use Rattle.s2_field.specs.Polynomials.{pow}
use Rattle.s2_bch.proofs.TermLemmas.{two_powers}
use Rattle.s2_bch.proofs.syndromes.times_alpha.Goals as goal

pub returns : goal.returns
returns g c =
    let f = g.F.Field in
    c.times_power-2.ensures
    ∙ ap (f.field.product (pow f.field f.alpha (c.args.power - c.args.power / 2))) c.times_power.ensures
    ∙ two_powers f.field g.met.F.Field.laws f.alpha c.args.value (c.args.power / 2) (c.args.power - c.args.power / 2) c.args.power (omega arith)
