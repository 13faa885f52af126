use Rattle.std.proofs.Common.{◌≡◌, ℕ, ◌+◌, ◌-◌, ◌^◌, ◌∙◌, SFits, w16, rules, ap, ap₂, arith}
use Rattle.s2_mode.specs.declared.symbols.Symbol.{Symbol}
use Rattle.s2_mode.specs.Symbols.{symbol}
use Rattle.s2_equalize.specs.declared.complex.Complex.{Complex}
use Rattle.s2_equalize.specs.Complex.{complex, nearest, number_of, times}
use Rattle.s2_equalize.specs.Equalizer.{limited, multiplied}
use Rattle.s2_equalize.proofs.Components.{component_held, number_held}
use Rattle.s2_equalize.proofs.frame.multiplied.Goals as goal

by_digits : (b d : ℕ) (factor : Complex) (s : Symbol) → d ≡ b + 2
    → symbol (limited (nearest (times (number_of s) factor).re (2 ^ d))) (limited (nearest (times (number_of s) factor).im (2 ^ d))) ≡ multiplied b factor s
unfolding multiplied
by_digits b d factor s is =
    ap (λ (n : ℕ). symbol (limited (nearest (times (number_of s) factor).re (2 ^ n))) (limited (nearest (times (number_of s) factor).im (2 ^ n)))) is

pub returns : goal.returns
returns c =
    let d = c.args.factor.digits in
    let factor = complex c.args.factor.re c.args.factor.im in
    let fits_i : SFits w16 c.component.result = search rules in
    let fits_q : SFits w16 c.component-2.result = search rules in
    let digits : d ≡ d - 2 + 2 = omega arith in
    let i = component_held c.component.result _ fits_i (c.component.ensures ∙ ap (λ x. limited (nearest x (2 ^ d))) (number_held c.real.result c.real.ensures.most ∙ c.real.ensures.is)) in
    let q = component_held c.component-2.result _ fits_q (c.component-2.ensures ∙ ap (λ x. limited (nearest x (2 ^ d))) (number_held c.imaginary.result c.imaginary.ensures.most ∙ c.imaginary.ensures.is)) in
    ap₂ symbol i q ∙ by_digits (d - 2) d factor c.args.symbol digits
