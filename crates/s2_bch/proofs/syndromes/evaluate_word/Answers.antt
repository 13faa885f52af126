use Rattle.std.proofs.Common.{◌≡◌, ◌∙◌, rules, arith}
use Rattle.std.proofs.lemmas.Grind.{common_steps}
use Rattle.s2_field.specs.Polynomials.{pow}
use Rattle.s2_bch.proofs.Horner.{horner_of, by_horner}
use Rattle.s2_bch.proofs.syndromes.evaluate_word.Goals as goal

pub returns : goal.returns
returns g c =
    let f = g.F.Field in
    let x = pow f.field f.alpha c.args.power in
    let looped : c.loop-bit.value ≡ horner_of f.field f.field.zero c.args.word.now x = first_of (search rules, grind (arith, common_steps)) in
    looped ∙ by_horner f.field g.met.F.Field.laws c.args.word.now x
