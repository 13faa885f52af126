use Rattle.std.proofs.Common.{◌≡◌, ◌≤◌, IfSome, length, sym, ap, subst, ◌∙◌, if◌then◌else◌}
use Rattle.s2_mode.specs.Mode.{symbols_in}
use Rattle.s2_plframe.specs.Payload.{received_payload}
use Rattle.s2_plframe.specs.Turns.{turn_of}
use Rattle.s2_soft.specs.Soft.{soft_values}
use Rattle.s2_equalize.specs.Equalizer.{Equalizer, equalizer_of}
use Rattle.s2_equalize.specs.Wanted.{held_by, levelled, removed_if}
use Rattle.s2_equalize.proofs.WantedLemmas.{if_equalized, length_levelled, levelled_by, removed_so}
use Rattle.s2_receive.proofs.StepLemmas.{symbols_least}
use Rattle.s2_message.specs.Decisions.{levelled_frame, removed_frame, soft_frame, upright_frame}
use Rattle.s2_message.specs.Reading.{Demodulating, FrameReader}
use Rattle.s2_message.proofs.ReaderLemmas.{length_upright, upright_so}
use Rattle.s2_message.proofs.reader.FrameReader.find_soft.Goals as goal
use Rattle.s2_message.proofs.reader.FrameReader.find_soft.Goals.{After-upright-upright}

pub derotate-self-inside-requires-clause-header : goal.derotate-self-inside-requires-clause-header
derotate-self-inside-requires-clause-header c = subst (λ n. 90 ≤ n) (sym c.requires.frame) (symbols_least c.args.self.now.mode)

module _ (c : After-upright-upright) where
  -- the frame has as many symbols as the mode
  whole : length c.args.symbols.now ≡ symbols_in c.self.inside.mode
  whole = c.requires.frame ∙ sym (ap (λ (r : FrameReader). symbols_in r.mode) c.self.view_is)

  upright_is : c.upright-upright.result.now ≡ upright_frame c.self.inside.mode c.self.inside.options c.args.symbols.now
  upright_is =
      let so = c.self.invariant in
      let turned = c.derotate-self-inside in
      upright_so c.self.inside.mode c.self.inside.options c.args.symbols.now c.upright-upright.result.now c.self.inside.derotator turned.new.self c.upright-upright.ensures turned.ensures.turns turned.ensures.is so.derotator so.turns

  upright_long : length c.upright-upright.result.now ≡ symbols_in c.self.inside.mode
  upright_long = ap length upright_is ∙ length_upright c.self.inside.mode c.self.inside.options c.args.symbols.now ∙ whole

pub equalize-requires : goal.equalize-requires
equalize-requires c =
    let so = c.self.invariant in
    let holds : Equalizer → Type 0 = λ e. length c.upright-upright.result.now ≡ symbols_in e.mode in
    subst (λ o. IfSome o holds) (sym so.equalizer) (if_equalized holds c.self.inside.options.equalize (equalizer_of c.self.inside.mode c.self.inside.demodulator.number) (upright_long (goal.at.equalize-requires c).After-upright-upright))

pub find_soft-requires-clause-frame : goal.find_soft-requires-clause-frame
find_soft-requires-clause-frame c =
    let so = c.self.invariant in
    let inside = c.self.inside in
    let long = upright_long (goal.at.find_soft-requires-clause-frame c).After-upright-upright in
    let held = levelled_by inside.mode inside.demodulator.number inside.options.equalize c.upright-upright.result.now c.equalize.new.self.symbols c.levelled-levelled.result.now inside.equalizer.equalizer c.equalize.new.self.equalizer
    so.equalizer c.equalize.ensures.same c.equalize.ensures.is c.levelled-levelled.ensures in
    ap length held ∙ length_levelled inside.mode inside.demodulator.number inside.options.equalize c.upright-upright.result.now long ∙ long ∙ ap symbols_in (sym so.demodulator)

pub returns : goal.returns
returns c =
    let so = c.self.invariant in
    let inside = c.self.inside in
    let turned = c.derotate-self-inside in
    let upright = upright_is (goal.at.returns c).After-upright-upright in
    let held = levelled_by inside.mode inside.demodulator.number inside.options.equalize c.upright-upright.result.now c.equalize.new.self.symbols c.levelled-levelled.result.now inside.equalizer.equalizer c.equalize.new.self.equalizer
    so.equalizer c.equalize.ensures.same c.equalize.ensures.is c.levelled-levelled.ensures in
    let levelled_is : c.levelled-levelled.result.now ≡ levelled_frame inside.mode inside.demodulator.number inside.options c.args.symbols.now =
    held ∙ ap (levelled inside.mode inside.demodulator.number inside.options.equalize) upright in
    let view = c.self.view_is in
    record {
      is = c.find_soft.ensures.is ∙ (λ i. soft_values (so.divisor i) (so.demodulator i) (received_payload (so.demodulator i) inside.demodulator.number (levelled_is i)))
          ∙ ap (λ (r : FrameReader). soft_frame r.mode r.number r.options c.args.symbols.now) view;
      range = c.find_soft.ensures.range;
      frame = record {
        levelled_is = ap (held_by c.equalize.new.self.equalizer c.equalize.new.self.symbols) (sym c.upright-upright.ensures) ∙ sym c.levelled-levelled.ensures ∙ levelled_is
            ∙ ap (λ (d : Demodulating). levelled_frame inside.mode d.number inside.options c.args.symbols.now) (sym c.find_soft.ensures.same);
        removed_is = c.equalize.ensures.removed ∙ removed_so inside.mode inside.demodulator.number inside.options.equalize c.upright-upright.result.now inside.equalizer.equalizer so.equalizer
            ∙ ap (removed_if inside.mode inside.demodulator.number inside.options.equalize) upright
            ∙ ap (λ (d : Demodulating). removed_frame inside.mode d.number inside.options c.args.symbols.now) (sym c.find_soft.ensures.same);
        turn_is = turned.ensures.turn ∙ (λ i. if so.turns i then turn_of (so.derotator i) c.args.symbols.now else 0);
      };
      same = record {
        mode = ap (λ (r : FrameReader). r.mode) view;
        number = ap (λ (d : Demodulating). d.number) c.find_soft.ensures.same ∙ ap (λ (r : FrameReader). r.number) view;
        options = ap (λ (r : FrameReader). r.options) view;
      };
    }
