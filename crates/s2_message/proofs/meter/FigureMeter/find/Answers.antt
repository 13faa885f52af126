use Rattle.std.proofs.Common.{◌≡◌, ap, ◌∙◌, rules, arith}
use Rattle.std.proofs.lemmas.Grind.{common_steps}
use Rattle.s2_map.specs.Mapping.{payload_of}
use Rattle.s2_plframe.specs.Frame.{frame_symbols}
use Rattle.s2_report.specs.declared.figures.Figures.{Figures}
use Rattle.s2_message.specs.Errors.{known_places, payload_places}
use Rattle.s2_message.specs.Figures.{FigureMeter as MeterValue, sent_frame, error_over, figures_of}
use Rattle.s2_message.specs.Correlation.{correlation_over}
use Rattle.s2_message.proofs.meter.FigureMeter.find.Goals as goal

pub returns-clause-is : goal.returns-clause-is
unfolding figures_of
returns-clause-is c =
    let s = c.self.inside in
    let symbols = c.args.symbols.now in
    let word = c.args.word.now in
    let made : c.deref.result.now ≡ payload_of s.mode word = first_of (search rules, grind (arith, common_steps)) in
    let framed : c.deref-2.result.now ≡ frame_symbols s.mode s.gold c.deref.result.now = first_of (search rules, grind (arith, common_steps)) in
    let sent : c.deref-2.result.now ≡ sent_frame s.mode s.gold word = framed ∙ ap (frame_symbols s.mode s.gold) made in
    let known = c.errors_of-errors.ensures.known ∙ ap (error_over (known_places s.mode) symbols) sent in
    let payload = c.errors_of-errors.ensures.payload ∙ ap (error_over (payload_places s.mode) symbols) sent in
    let framed_again : c.deref-3.result.now ≡ frame_symbols s.mode s.gold c.deref.result.now = first_of (search rules, grind (arith, common_steps)) in
    let again : c.deref-3.result.now ≡ sent_frame s.mode s.gold word = framed_again ∙ ap (frame_symbols s.mode s.gold) made in
    let known_correlation = c.correlations_of-correlations.ensures.known ∙ ap (correlation_over (known_places s.mode) symbols) again in
    let payload_correlation = c.correlations_of-correlations.ensures.payload ∙ ap (correlation_over (payload_places s.mode) symbols) again in
    let got : Figures =
    record {
      header = c.header_errors.result;
      rounds = c.args.rounds;
      changed = c.changed_bits.result;
      known = c.errors_of-errors.result.known;
      payload = c.errors_of-errors.result.payload;
      known_correlation = c.correlations_of-correlations.result.known;
      payload_correlation = c.correlations_of-correlations.result.payload;
      removed = c.args.removed;
    } in
    let all : got ≡ figures_of s.mode s.gold symbols c.args.removed c.args.soft.now word c.args.rounds =
    λ t. record {
      header = c.header_errors.ensures t;
      rounds = c.args.rounds;
      changed = c.changed_bits.ensures.is t;
      known = known t;
      payload = payload t;
      known_correlation = known_correlation t;
      payload_correlation = payload_correlation t;
      removed = c.args.removed;
    } in
    all ∙ ap (λ (v : MeterValue). figures_of v.mode v.number symbols c.args.removed c.args.soft.now word c.args.rounds) c.self.view_is
