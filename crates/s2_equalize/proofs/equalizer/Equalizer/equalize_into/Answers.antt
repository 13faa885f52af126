use Rattle.std.proofs.Common.{◌≡◌, ◌-◌, List, length, map, ap, sym, subst, ◌∙◌, arith}
use Rattle.std.specs.List.{range_with_len}
use Rattle.s2_mode.specs.Mode.{pilot_blocks_of, symbols_in}
use Rattle.s2_equalize.specs.Bounds.{AreSmall}
use Rattle.s2_equalize.specs.declared.equalizer.Removed.{Removed}
use Rattle.s2_equalize.specs.Complex.{complex_at}
use Rattle.s2_equalize.specs.Equalizer.{Equalizer, equalized, equalized_symbol, removed}
use Rattle.s2_equalize.specs.declared.complex.Complex.{Complex}
use Rattle.s2_equalize.specs.Gains.{gains_of, known_frame, smoothed, turn}
use Rattle.s2_equalize.proofs.Known.{known_length, known_small}
use Rattle.s2_equalize.proofs.equalizer.Equalizer.equalize_into.Goals as goal

pub equalize-requires-clause-small : goal.equalize-requires-clause-small
equalize-requires-clause-small c =
    let inside = c.self.inside in
    subst AreSmall (sym (c.deref.ensures.value ∙ c.self.invariant.0)) (known_small inside.mode inside.number)

pub equalize-requires-clause-known : goal.equalize-requires-clause-known
equalize-requires-clause-known c =
    let inside = c.self.inside in
    ap length (c.deref.ensures.value ∙ c.self.invariant.0)
    ∙ (known_length inside.mode inside.number ∙ (ap (λ (e : Equalizer). symbols_in e.mode) c.self.view_is ∙ sym c.requires.symbols))

pub returns-clause-is : goal.returns-clause-is
unfolding equalized
returns-clause-is c =
    let inside = c.self.inside in
    let symbols = c.args.symbols.now in
    let known = c.deref.ensures.value ∙ c.self.invariant.0 in
    let gains = ap length c.deref_mut.ensures.value ∙ c.self.invariant.1 in
    let blocks : length c.deref_mut.result.now - 1 ≡ pilot_blocks_of inside.mode = omega (arith, gains) in
    let long : length symbols ≡ symbols_in inside.mode = c.requires.symbols ∙ ap (λ (e : Equalizer). symbols_in e.mode) (sym c.self.view_is) in
    c.equalize.ensures.is
    ∙ ((λ t. map (equalized_symbol (smoothed (gains_of symbols (known t) (blocks t))) symbols) (range_with_len 0 (long t)))
    ∙ ap (λ (e : Equalizer). equalized e.mode e.number symbols) c.self.view_is)

pub returns-clause-removed : goal.returns-clause-removed
unfolding removed
returns-clause-removed c =
    let inside = c.self.inside in
    let symbols = c.args.symbols.now in
    let known = c.deref.ensures.value ∙ c.self.invariant.0 in
    let gains = ap length c.deref_mut.ensures.value ∙ c.self.invariant.1 in
    let blocks : length c.deref_mut.result.now - 1 ≡ pilot_blocks_of inside.mode = omega (arith, gains) in
    let both : gains_of symbols c.deref.result.now (length c.deref_mut.result.now - 1) ≡ gains_of symbols (known_frame inside.mode inside.number) (pilot_blocks_of inside.mode) = λ t. gains_of symbols (known t) (blocks t) in
    let gain = c.equalize.ensures.gain ∙ ap (λ (xs : List Complex). complex_at (smoothed xs) 0) both in
    let rotation = c.equalize.ensures.rotation ∙ ap turn both in
    (λ t. record { gain = gain t; rotation = rotation t }) ∙ ap (λ (e : Equalizer). removed e.mode e.number symbols) c.self.view_is
