use Rattle.std.proofs.Common.{ℕ, List, ◌∙◌, sym, subst, ap, rules}
use Rattle.s2_names.specs.Rates.{IsRate}
use Rattle.s2_names.specs.RateTexts.{HasFraction, power_of}
use Rattle.s2_names.proofs.RateTextLemmas.{rest_other, same_power, scaled_of, same_some}
use Rattle.s2_names.proofs.rate.SymbolRate.read.Goals as goal

pub returns-in_err-fraction-clause-found : goal.returns-in_err-fraction-clause-found
returns-in_err-fraction-clause-found c = (
  search rules,
  λ (rate, x).
      let fronts = c.in_ok-whole.ensures.only x.whole x.rest (c.as_bytes.ensures.value ∙ x.front) x.digits (rest_other x.rest x.fraction x.ending x.power x.behind x.scale) in
      let behind = subst (λ (rest : List ℕ). HasFraction rest x.fraction x.ending) (sym fronts.1) x.behind in
      absurd (c.in_err-fraction.ensures.only x.fraction x.ending x.power behind x.scale),
)

pub returns-in_err-power-clause-found : goal.returns-in_err-power-clause-found
returns-in_err-power-clause-found c = (
  search rules,
  λ (rate, x).
      let fronts = c.in_ok-whole.ensures.only x.whole x.rest (c.as_bytes.ensures.value ∙ x.front) x.digits (rest_other x.rest x.fraction x.ending x.power x.behind x.scale) in
      let behind = subst (λ (rest : List ℕ). HasFraction rest x.fraction x.ending) (sym fronts.1) x.behind in
      let ends = c.in_ok-fraction.ensures.only x.fraction x.ending x.power behind x.scale in
      let never = c.in_err-power.ensures.value ∙ ap power_of ends.1 ∙ x.scale in
      absurd (cc),
)

pub returns-in_err-scaled-clause-found : goal.returns-in_err-scaled-clause-found
returns-in_err-scaled-clause-found c = (
  search rules,
  λ (rate, x).
      let fronts = c.in_ok-whole.ensures.only x.whole x.rest (c.as_bytes.ensures.value ∙ x.front) x.digits (rest_other x.rest x.fraction x.ending x.power x.behind x.scale) in
      let behind = subst (λ (rest : List ℕ). HasFraction rest x.fraction x.ending) (sym fronts.1) x.behind in
      let ends = c.in_ok-fraction.ensures.only x.fraction x.ending x.power behind x.scale in
      let powers = same_power c.in_ok-fraction.ending.now x.ending c.in_ok-power.power x.power ends.1 (sym c.in_ok-power.ensures.value) x.scale in
      let never = c.in_err-scaled.ensures.only rate x.range.most
      (scaled_of x.whole c.in_ok-whole.whole.now x.fraction c.in_ok-fraction.fraction.now x.power c.in_ok-power.power rate fronts.0 ends.0 powers x.value) in
      absurd (cc),
)

pub returns-clause-found : goal.returns-clause-found
returns-clause-found c = (
  λ some. (
    c.in_ok-scaled.field-0,
    record {
      whole = c.in_ok-whole.whole.now;
      rest = c.in_ok-whole.rest.now;
      fraction = c.in_ok-fraction.fraction.now;
      ending = c.in_ok-fraction.ending.now;
      power = c.in_ok-power.power;
      front = sym c.as_bytes.ensures.value ∙ c.in_ok-whole.ensures.parts.0;
      digits = c.in_ok-whole.ensures.parts.1;
      behind = c.in_ok-fraction.ensures.parts;
      scale = sym c.in_ok-power.ensures.value;
      value = c.in_ok-scaled.ensures.value;
      range = c.new.ensures.found.0 some;
    },
  ),
  λ (rate, x).
      let fronts = c.in_ok-whole.ensures.only x.whole x.rest (c.as_bytes.ensures.value ∙ x.front) x.digits (rest_other x.rest x.fraction x.ending x.power x.behind x.scale) in
      let behind = subst (λ (rest : List ℕ). HasFraction rest x.fraction x.ending) (sym fronts.1) x.behind in
      let ends = c.in_ok-fraction.ensures.only x.fraction x.ending x.power behind x.scale in
      let powers = same_power c.in_ok-fraction.ending.now x.ending c.in_ok-power.power x.power ends.1 (sym c.in_ok-power.ensures.value) x.scale in
      let here = c.in_ok-scaled.ensures.only rate x.range.most
      (scaled_of x.whole c.in_ok-whole.whole.now x.fraction c.in_ok-fraction.fraction.now x.power c.in_ok-power.power rate fronts.0 ends.0 powers x.value) in
      let same = same_some c.in_ok-scaled.field-0 rate here in
      c.new.ensures.found.1 (subst (λ (n : ℕ). IsRate n) (sym same) x.range),
)
