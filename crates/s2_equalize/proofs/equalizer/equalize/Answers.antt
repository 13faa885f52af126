use Rattle.std.proofs.Common.{◌≡◌, ℕ, ◌-◌, List, length, map, pos, ap, ap₂, ◌∙◌, refl, arith}
use Rattle.std.proofs.lemmas.List.FromFn.{fill_by_all}
use Rattle.s2_mode.specs.Symbols.{symbol, symbol_at}
use Rattle.s2_equalize.specs.declared.complex.Complex.{Complex}
use Rattle.s2_equalize.specs.Equalizer.{equalized_symbol, factor_at, factors_of, fineness, multiplied, reciprocal, stretch}
use Rattle.s2_equalize.specs.Complex.{complex_at}
use Rattle.s2_equalize.specs.Gains.{gains_of, smoothed, turn}
use Rattle.s2_equalize.proofs.equalizer.equalize.Goals as goal

factors_are : (gains : List Complex) → map (reciprocal (fineness gains)) gains ≡ factors_of gains
unfolding factors_of
factors_are gains = refl

pub returns-clause-is : goal.returns-clause-is
returns-clause-is c =
    let symbols = c.args.symbols.now in
    let gains = smoothed (gains_of symbols c.args.known.now (length c.args.gains.now - 1)) in
    let gains_are : c.smooth_into-rotation.new.smoothed ≡ gains = c.smooth_into-rotation.ensures.is ∙ ap smoothed c.find_gains.ensures.is in
    let fine : c.fineness-fineness.result ≡ fineness gains = c.fineness-fineness.ensures.is ∙ ap fineness gains_are in
    let factors : c.invert_each.new.gains ≡ factors_of gains = c.invert_each.ensures.is ∙ (ap₂ (λ (b : ℕ) (xs : List Complex). map (reciprocal b) xs) fine gains_are ∙ factors_are gains) in
    let long : length c.multiply_frame.new.out ≡ length symbols = omega arith in
    fill_by_all (equalized_symbol gains symbols) c.multiply_frame.new.out (length symbols) (symbol (pos 0) (pos 0)) long
    (λ i lt. c.multiply_frame.ensures i lt ∙ ap₂ (λ (b : ℕ) (xs : List Complex). multiplied b (factor_at xs (stretch i)) (symbol_at symbols i)) fine factors)

pub returns-clause-gain : goal.returns-clause-gain
returns-clause-gain c = ap (λ (xs : List Complex). complex_at xs 0) (c.smooth_into-rotation.ensures.is ∙ ap smoothed c.find_gains.ensures.is)

pub returns-clause-rotation : goal.returns-clause-rotation
returns-clause-rotation c = c.smooth_into-rotation.ensures.turn ∙ ap turn c.find_gains.ensures.is
