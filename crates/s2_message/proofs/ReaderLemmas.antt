-- What a reader of frames finds is the decision by the bits that are given.
use Rattle.std.proofs.Common.{◌≡◌, ℕ, Bool, true, false, cond, List, length, Option, Some, None, IfSome, Result, refl, sym, ap, ◌∙◌, ℤ, if◌then◌else◌}
use Rattle.std.proofs.lemmas.List.{length-map}
use Rattle.std.specs.Prelude.{take}
use Rattle.s2_mode.specs.Mode.{Mode}
use Rattle.s2_mode.specs.declared.symbols.Symbol.{Symbol}
use Rattle.s2_check.specs.Views.{View}
use Rattle.s2_check.specs.declared.verdict.Verdict.{Verdict}
use Rattle.s2_bbframe.specs.Headers.{header_of_bytes}
use Rattle.s2_bbframe.specs.declared.header.Header.{Header}
use Rattle.s2_bbframe.specs.declared.header.HeaderFault.{HeaderFault}
use Rattle.s2_scramble.specs.Baseband.{scrambled}
use Rattle.s2_scramble.specs.Rotations.{rotated_back}
unfoldable use Rattle.s2_plframe.specs.Turns.{derotated}
use Rattle.s2_plframe.specs.Turns.{turn_of}
use Rattle.s2_message.specs.Figures.{FigureMeter, figures_of, meter_of}
use Rattle.s2_message.specs.Header.{energy_of}
use Rattle.s2_receive.specs.Receiving.{Decision}
use Rattle.s2_report.specs.declared.figures.Figures.{Figures}
use Rattle.s2_report.specs.declared.report.Outcome.{Outcome}
use Rattle.s2_message.specs.declared.options.FrameOptions.{FrameOptions}
use Rattle.s2_equalize.specs.declared.equalizer.Removed.{Removed}
use Rattle.s2_message.specs.Decisions.{upright_frame, levelled_frame, removed_frame, quarters, received_word, message_of, header_in, outcome_by, delivered_by, word_decision, bits_decision, figures_with, measured, decision_with}
use Rattle.s2_message.specs.Reading.{FindsWord, Reads, Derotating, upright, meter_by, figures_found}

abbrev pub shown : Mode → List ℤ → List Bool → Verdict → Option View → List Bool → Outcome → Option (Header × List ℕ) → Decision
shown m soft bits verdict certificate word outcome delivered =
    record { soft = soft; bits = bits; verdict = verdict; certificate = certificate; message = message_of m word; outcome = outcome; delivered = delivered; figures = None; energy = 0; turn = 0 }

-- what was found and read is what is decided
decision_is : (m : Mode) (soft : List ℤ) (verdict : Verdict) (bits : List Bool) (certificate : Option View) (word : List Bool) (found : Option ℕ) (outcome : Outcome) (delivered : Option (Header × List ℕ))
    → FindsWord m (received_word m bits) word found → Reads m word found outcome delivered → shown m soft bits verdict certificate word outcome delivered ≡ bits_decision m soft verdict bits certificate
decision_is m soft verdict bits certificate word (Some fixed) outcome delivered finds reads =
    let frame = scrambled (message_of m word) in
    let read : Result Header HeaderFault = header_of_bytes m (header_in frame) in
    (λ i. shown m soft bits verdict certificate word (reads.0 i) (reads.1 i))
    ∙ ap (λ n. shown m soft bits verdict certificate word (outcome_by n read) (delivered_by frame read)) finds.1 ∙ ap (word_decision m soft verdict bits certificate) (sym finds.0)
decision_is m soft verdict bits certificate word None outcome delivered finds reads =
    (λ i. shown m soft bits verdict certificate (finds.1 i) (reads.0 i) (reads.1 i)) ∙ ap (word_decision m soft verdict bits certificate) (sym finds.0)

-- what holds of a finder holds of it where one is wanted
pub if_wanted : (P : FigureMeter → Type 0) (wanted : Bool) (f : FigureMeter) → P f → IfSome (cond wanted (Some f) None) P
if_wanted P true f h = h
if_wanted P false f h = tt

-- what a finder finds are the figures of the frame
pub figures_are : (m : Mode) (number : ℕ) (options : FrameOptions) (symbols held : List Symbol) (removed : Option Removed) (soft : List ℤ) (bits : List Bool) (rounds : ℕ) (meter : Option FigureMeter) (figures : Option Figures)
    → figures ≡ figures_found meter held removed soft bits rounds → meter ≡ meter_by options.figures m number → held ≡ levelled_frame m number options symbols → removed ≡ removed_frame m number options symbols → figures ≡ figures_with m number options symbols soft bits rounds
figures_are m number options symbols held removed soft bits rounds meter figures found wanted levelled_is removed_is =
    found ∙ ap (λ f. figures_found f held removed soft bits rounds) wanted ∙ by_want options.figures _ (λ i. figures_of m number (levelled_is i) (removed_is i) soft bits rounds)
  where
    by_want : (wanted : Bool) (f : Figures) → figures_of m number held removed soft bits rounds ≡ f → figures_found (cond wanted (Some (meter_of m number)) None) held removed soft bits rounds ≡ cond wanted (Some f) None
    by_want true f is = ap Some is
    by_want false f is = refl

-- the upright symbols, by what rotated them back
upright_by : (old new : Derotating) (turns : Bool) (frame : List Symbol) → new.turns ≡ old.turns → old.turns ≡ turns → (old.turns ≡ true → new.symbols ≡ derotated old.mode frame)
    → upright new frame ≡ (if turns then derotated old.mode frame else frame)
upright_by old new true frame same is wrote = ap (λ b. if b then new.symbols else frame) (same ∙ is) ∙ wrote is
upright_by old new false frame same is wrote = ap (λ b. if b then new.symbols else frame) (same ∙ is)

-- by a mode and options
pub upright_so : (m : Mode) (options : FrameOptions) (frame result : List Symbol) (old new : Derotating) → result ≡ upright new frame → new.turns ≡ old.turns → (old.turns ≡ true → new.symbols ≡ derotated old.mode frame)
    → old.mode ≡ m → old.turns ≡ options.turns → result ≡ upright_frame m options frame
upright_so m options frame result old new is same wrote mode turns =
    is ∙ upright_by old new options.turns frame same turns wrote ∙ ap (λ x. if options.turns then derotated x frame else frame) mode

-- as many as were given
pub length_upright : (m : Mode) (options : FrameOptions) (frame : List Symbol) → length (upright_frame m options frame) ≡ length frame
unfolding derotated
length_upright m options frame = by options.turns
  where
    by : (turns : Bool) → length (if turns then derotated m frame else frame) ≡ length frame
    by true = length-map frame (rotated_back (turn_of m frame))
    by false = refl

-- the parts that are found are the decision by these bits
pub decided_with : (m : Mode) (number : ℕ) (options : FrameOptions) (symbols : List Symbol) (soft : List ℤ) (verdict : Verdict) (bits : List Bool) (certificate : Option View) (rounds : ℕ) (word : List Bool) (found : Option ℕ) (outcome : Outcome) (delivered : Option (Header × List ℕ)) (figures : Option Figures) (energy turn : ℕ)
    → FindsWord m (received_word m bits) word found → Reads m word found outcome delivered
    → figures ≡ figures_with m number options symbols soft bits rounds → energy ≡ energy_of (take 90 symbols) → turn ≡ quarters m options symbols
    → measured (shown m soft bits verdict certificate word outcome delivered) figures energy turn ≡ decision_with m number options symbols soft verdict bits certificate rounds
decided_with m number options symbols soft verdict bits certificate rounds word found outcome delivered figures energy turn finds reads figures_is energy_is turn_is =
    λ i. measured (decision_is m soft verdict bits certificate word found outcome delivered finds reads i) (figures_is i) (energy_is i) (turn_is i)
