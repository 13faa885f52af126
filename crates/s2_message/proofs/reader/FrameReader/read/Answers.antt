use Rattle.std.proofs.Common.{◌≡◌, ◌≤◌, IfSome, length, sym, ap, subst, ◌∙◌}
use Rattle.s2_mode.specs.Mode.{symbols_in}
use Rattle.s2_message.specs.Figures.{FigureMeter, meter_of}
use Rattle.s2_receive.specs.Decider.{delivered_of}
use Rattle.s2_receive.proofs.StepLemmas.{symbols_least}
use Rattle.s2_equalize.specs.Wanted.{held_by}
use Rattle.s2_equalize.proofs.WantedLemmas.{length_levelled}
use Rattle.s2_message.specs.Decisions.{decision_with, levelled_frame, quarters, received_word, removed_frame, upright_frame}
use Rattle.s2_message.specs.Reading.{FindsWord, FrameReader, Reads, upright}
use Rattle.s2_message.proofs.ReaderLemmas.{decided_with, figures_are, if_wanted, length_upright}
use Rattle.s2_message.proofs.reader.FrameReader.read.Goals as goal
use Rattle.s2_message.proofs.reader.FrameReader.read.Goals.{After-levelled-levelled}

module _ (c : After-levelled-levelled) where
  levelled_is : c.levelled-levelled.result.now ≡ levelled_frame c.self.inside.mode c.self.inside.demodulator.number c.self.inside.options c.args.symbols.now
  levelled_is =
      c.levelled-levelled.ensures ∙ ap (held_by c.self.inside.equalizer.equalizer c.self.inside.equalizer.symbols) c.upright-upright.ensures
      ∙ subst (λ (r : FrameReader). held_by r.equalizer.equalizer r.equalizer.symbols (upright r.derotator c.args.symbols.now) ≡ levelled_frame r.mode r.number r.options c.args.symbols.now) (sym c.self.view_is) c.requires.found.levelled_is

  levelled_long : length c.levelled-levelled.result.now ≡ symbols_in c.self.inside.mode
  levelled_long =
      let inside = c.self.inside in
      let whole = c.requires.frame ∙ sym (ap (λ (r : FrameReader). symbols_in r.mode) c.self.view_is) in
      let upright_long = length_upright inside.mode inside.options c.args.symbols.now in
      ap length levelled_is ∙ length_levelled inside.mode inside.demodulator.number inside.options.equalize (upright_frame inside.mode inside.options c.args.symbols.now) (upright_long ∙ whole) ∙ upright_long ∙ whole

pub find_figures-figures-requires-clause-symbols : goal.find_figures-figures-requires-clause-symbols
find_figures-figures-requires-clause-symbols c =
    let inside = c.self.inside in
    let holds : FigureMeter → Type 0 = λ f. length c.levelled-levelled.result.now ≡ symbols_in f.mode in
    subst (λ o. IfSome o holds) (sym c.self.invariant.figures) (if_wanted holds inside.options.figures (meter_of inside.mode inside.demodulator.number) (levelled_long (goal.at.find_figures-figures-requires-clause-symbols c).After-levelled-levelled))

pub header_energy-requires : goal.header_energy-requires
header_energy-requires c = subst (λ n. 90 ≤ n) (sym c.requires.frame) (symbols_least c.args.self.now.mode)

pub returns : goal.returns
returns c =
    let so = c.self.invariant in
    let inside = c.self.inside in
    let read = c.read_outcome-outcome in
    let view = c.self.view_is in
    let finds : FindsWord inside.mode (received_word inside.mode c.args.word.now) c.correct-found.new.self.word c.correct-found.result = rw so.corrector at c.correct-found.ensures.nearest in
    let reads : Reads inside.mode c.correct-found.new.self.word c.correct-found.result read.result.0 (delivered_of read.result.1 read.new.self.field) = rw (so.messages, c.word.ensures.is) at read.ensures.reads in
    let levelled = levelled_is (goal.at.returns c).After-levelled-levelled in
    let removed = c.removed-removed.ensures ∙ subst (λ (r : FrameReader). r.equalizer.removed ≡ removed_frame r.mode r.number r.options c.args.symbols.now) (sym view) c.requires.found.removed_is in
    let figures = figures_are inside.mode inside.demodulator.number inside.options c.args.symbols.now c.levelled-levelled.result.now c.removed-removed.result c.args.soft.now c.args.word.now c.args.rounds inside.meter c.find_figures-figures.result
    c.find_figures-figures.ensures.is so.figures levelled removed in
    let turn : inside.turn ≡ quarters inside.mode inside.options c.args.symbols.now =
    subst (λ (r : FrameReader). r.turn ≡ quarters r.mode r.options c.args.symbols.now) (sym view) c.requires.found.turn_is in
    record {
      decides = λ certificate.
          decided_with inside.mode inside.demodulator.number inside.options c.args.symbols.now c.args.soft.now c.args.verdict c.args.word.now certificate c.args.rounds c.correct-found.new.self.word c.correct-found.result
          read.result.0 (delivered_of read.result.1 read.new.self.field) c.find_figures-figures.result c.header_energy.result inside.turn finds reads figures c.header_energy.ensures turn
          ∙ ap (λ (r : FrameReader). decision_with r.mode r.number r.options c.args.symbols.now c.args.soft.now c.args.verdict c.args.word.now certificate c.args.rounds) view;
      place = read.ensures.place;
      same = record {
        mode = ap (λ (r : FrameReader). r.mode) view;
        number = ap (λ (r : FrameReader). r.number) view;
        options = ap (λ (r : FrameReader). r.options) view;
      };
    }
