use Rattle.std.proofs.Common.{◌≡◌, ◌≤◌, ◌<◌, Bool, List, ℤ, pos, ◌*ℤ◌, FitsSigned, unsigned_abs, w64, to_z, of_z, arith, ap, ap₂, refl, subst, sym, ◌∙◌}
use Rattle.std.proofs.lemmas.Int.{ints, by_lt_z}
use Rattle.s2_matrix.specs.Code.{code_of, IsCodeword, IsOddCheck}
use Rattle.s2_check.specs.Cost.{cost}
use Rattle.s2_check.specs.Split.{bound}
use Rattle.s2_check.specs.Checking.{split_in}
use Rattle.s2_check.proofs.Duality.{weak_duality_lem, bound-le-cost}
use Rattle.s2_check.proofs.Products.{product_fits, product_is, factors_are}
use Rattle.s2_check.proofs.checker.examine.Goals as goal

pub returns-in-Some-clause-yes : goal.returns-in-Some-clause-yes
returns-in-Some-clause-yes c =
    let P : List Bool → Type 0 = λ w. IsOddCheck (code_of c.args.matrix.now) w c.in-Some.check in
    let odd : IsOddCheck (code_of c.args.matrix.now) c.args.view.now.bits c.in-Some.check = subst P c.word.ensures.is c.in-Some.ensures in (
      λ e. (cc),
      λ certificate. absurd (omega (arith, certificate.accepted.codeword.even c.in-Some.check odd.within, odd.odd)),
    )

pub overflow_mul-scaled_cost : goal.overflow_mul-scaled_cost
overflow_mul-scaled_cost c =
    let size : unsigned_abs c.cost.result ≤ 2147483648 = omega (arith, ints) in
    let small : c.scale.result < 65536 = omega arith in
    let P : ℤ → Type 0 = λ z. FitsSigned w64 z in
    subst P (sym (factors_are c.from.result c.cost.result c.scale.result c.cost.result c.from.ensures refl small size)) (product_fits c.scale.result c.cost.result small size)

pub returns-then-scaled_cost-shown-clause-exact : goal.returns-then-scaled_cost-shown-clause-exact
returns-then-scaled_cost-shown-clause-exact c =
    let v = c.args.view.now in
    let code = code_of c.args.matrix.now in
    let P : List Bool → Type 0 = λ w. IsCodeword code w in
    let codeword : IsCodeword code v.bits = subst P c.word.ensures.is c.in_default.ensures in
    let size : unsigned_abs c.cost.result ≤ 2147483648 = omega (arith, ints) in
    let small : c.scale.result < 65536 = omega arith in
    let scaled = product_is c.from.result c.cost.result c.scale.result c.cost.result c.from.ensures refl small size in
    let compared = ap (to_z w64) c.if-scaled_cost-shown.true in
    let costs : c.cost.result ≡ cost v.soft v.bits = c.cost.ensures.value ∙ ap₂ cost c.soft_values.ensures.is c.word-2.ensures.is in
    let factors : pos c.scale.result *ℤ c.cost.result ≡ pos v.scale *ℤ cost v.soft v.bits = ap₂ (λ s z. pos s *ℤ z) c.scale.ensures.is costs in
    let bounds = c.shown-shown.ensures.bound in
    record {
      shaped = c.if-not-is_of.ensures.0 refl;
      accepted = record {
        scaled = c.scale.ensures.valid.scale_some;
        codeword = codeword;
        tight = omega (arith, ints);
      };
    }

pub returns-then-scaled_cost-shown-clause-yes : goal.returns-then-scaled_cost-shown-clause-yes
returns-then-scaled_cost-shown-clause-yes c =
    (λ _. returns-then-scaled_cost-shown-clause-exact c, λ _. refl)

pub returns-then-scaled_cost-shown-clause-likely : goal.returns-then-scaled_cost-shown-clause-likely
returns-then-scaled_cost-shown-clause-likely c _ =
    let v = c.args.view.now in
    weak_duality_lem (code_of c.args.matrix.now) v.soft (split_in c.args.matrix.now v) v.bits (returns-then-scaled_cost-shown-clause-exact c).accepted

pub returns-else-scaled_cost-shown-clause-exact : goal.returns-else-scaled_cost-shown-clause-exact
returns-else-scaled_cost-shown-clause-exact c =
    let v = c.args.view.now in
    let r = c.args.matrix.now in
    let code = code_of r in
    let P : List Bool → Type 0 = λ w. IsCodeword code w in
    let codeword : IsCodeword code v.bits = subst P c.word.ensures.is c.in_default.ensures in
    let size : unsigned_abs c.cost.result ≤ 2147483648 = omega (arith, ints) in
    let small : c.scale.result < 65536 = omega arith in
    let costs : c.cost.result ≡ cost v.soft v.bits = c.cost.ensures.value ∙ ap₂ cost c.soft_values.ensures.is c.word-2.ensures.is in
    let factors : pos c.scale.result *ℤ c.cost.result ≡ pos v.scale *ℤ cost v.soft v.bits = ap₂ (λ s z. pos s *ℤ z) c.scale.ensures.is costs in
    let most = bound-le-cost code v.soft (split_in r v) v.bits codeword in
    let product = factors_are c.from.result c.cost.result c.scale.result c.cost.result c.from.ensures refl small size in
    let below = by_lt_z (bound code v.soft (split_in r v)) (pos v.scale *ℤ cost v.soft v.bits) (λ less. less) (λ le. (
    let same : pos v.scale *ℤ cost v.soft v.bits ≡ bound code v.soft (split_in r v) = omega (arith, ints) in
    absurd (c.if-scaled_cost-shown.false (ap (of_z w64) (product ∙ factors ∙ same ∙ sym c.shown-shown.ensures.bound)))
    )) in
    (c.if-not-is_of.ensures.0 refl, codeword, below)

pub returns-in-Some-clause-strict : goal.returns-in-Some-clause-strict
returns-in-Some-clause-strict c =
    let P : List Bool → Type 0 = λ w. IsOddCheck (code_of c.args.matrix.now) w c.in-Some.check in
    let odd : IsOddCheck (code_of c.args.matrix.now) c.args.view.now.bits c.in-Some.check = subst P c.word.ensures.is c.in-Some.ensures in (
      λ e. (cc),
      λ strict. absurd (omega (arith, strict.certificate.accepted.codeword.even c.in-Some.check odd.within, odd.odd)),
    )

pub returns-then-scaled_cost-shown-clause-strict : goal.returns-then-scaled_cost-shown-clause-strict
returns-then-scaled_cost-shown-clause-strict c =
    let strict = c.shown-shown.ensures.strict in
    (λ yes'. record { certificate = returns-then-scaled_cost-shown-clause-exact c; strict = strict.0 yes' }, λ s. strict.1 s.strict)

pub returns-else-scaled_cost-shown-clause-strict : goal.returns-else-scaled_cost-shown-clause-strict
returns-else-scaled_cost-shown-clause-strict c =
    let below = (returns-else-scaled_cost-shown-clause-exact c).2 in (
      λ e. (cc),
      λ s. absurd (let tight = s.certificate.accepted.tight in omega (arith, ints, below, tight)),
    )
