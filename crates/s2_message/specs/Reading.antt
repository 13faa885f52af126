-- The values of a frame reader and of its stages (EN 302 307-1, 5.1 to 5.5).
use Rattle.std.specs.Prelude.{◌≡◌, ℕ, Bool, if◌then◌else◌, List, Option, Some, None, ℤ}
use Rattle.s2_mode.specs.Mode.{Mode, IsMode, k_of, HasCodeSizes}
use Rattle.s2_mode.specs.declared.symbols.Symbol.{Symbol}
use Rattle.s2_bits.specs.Bits.{differences}
use Rattle.s2_check.specs.Views.{View}
use Rattle.s2_check.specs.declared.verdict.Verdict.{Verdict}
use Rattle.s2_bbframe.specs.declared.header.Header.{Header}
use Rattle.s2_bbframe.specs.Headers.{header_of_bytes}
use Rattle.s2_scramble.specs.Baseband.{scrambled}
use Rattle.s2_receive.specs.Decider.{delivered_of}
use Rattle.s2_receive.specs.Receiving.{Decision}
use Rattle.s2_receive.specs.declared.decider.Decided.{Decided}
use Rattle.s2_report.specs.declared.figures.Figures.{Figures}
use Rattle.s2_report.specs.declared.report.Outcome.{Outcome}
use Rattle.s2_report.specs.declared.report.Outcome.TheVariants.{NoWord}
use Rattle.s2_bch.specs.Decoding.{nearest}
use Rattle.s2_equalize.specs.declared.equalizer.Removed.{Removed}
use Rattle.s2_equalize.specs.Wanted.{Equalizing, equalizer_by, held_by}
use Rattle.s2_message.specs.Figures.{FigureMeter, figures_of, meter_of}
use Rattle.s2_message.specs.Decisions.{message_of, header_in, outcome_by, delivered_by, levelled_frame, removed_frame, quarters, decision_with}
use Rattle.s2_message.specs.declared.options.FrameOptions.{FrameOptions}

-- ---- the stages

-- the result of BCH decoding on some bits, and the bits that it leaves
abbrev pub FindsWord : Mode → List Bool → List Bool → Option ℕ → Type 0
FindsWord m received bch_word (Some fixed) = (nearest m received ≡ Some bch_word) × (fixed ≡ differences (k_of m) received bch_word)
FindsWord m received bch_word None = (nearest m received ≡ None) × (bch_word ≡ received)

-- the outcome of that
abbrev pub Reads : Mode → List Bool → Option ℕ → Outcome → Option (Header × List ℕ) → Type 0
Reads m bch_word (Some fixed) outcome delivered =
    (outcome ≡ outcome_by fixed (header_of_bytes m (header_in (scrambled (message_of m bch_word)))))
    × (delivered ≡ delivered_by (scrambled (message_of m bch_word)) (header_of_bytes m (header_in (scrambled (message_of m bch_word)))))
Reads m bch_word None outcome delivered = (outcome ≡ NoWord) × (delivered ≡ None)

-- what makes soft values: a mode, their divisor, and a scrambling number
pub record Demodulating : Type 0 where
  pub mode : Mode
  pub divisor : ℕ
  pub number : ℕ

-- a mode, and the word that BCH decoding left last
pub record Correcting : Type 0 where
  pub mode : Mode
  pub word : List Bool

-- a mode, and the data field that was taken out of a message last
pub record Reading : Type 0 where
  pub mode : Mode
  pub field : List ℕ

-- what rotates frames back: their mode, whether it does, and the symbols that it wrote last
pub record Derotating : Type 0 where
  pub mode : Mode
  pub turns : Bool
  pub symbols : List Symbol

-- the symbols that are decided of a frame: those written last, if it rotates frames back
abbrev pub upright : Derotating → List Symbol → List Symbol
upright d symbols = if d.turns then d.symbols else symbols

-- the finder of figures, if they are requested
abbrev pub meter_by : (wanted : Bool) → Mode → ℕ → Option FigureMeter
meter_by wanted mode number = if wanted then Some (meter_of mode number) else None

-- the figures of a frame, from symbols, the gain removed from them, soft values, decided bits and rounds of min-sum
abbrev pub figures_found : Option FigureMeter → List Symbol → Option Removed → List ℤ → List Bool → ℕ → Option Figures
figures_found None symbols removed soft bits rounds = None
figures_found (Some f) symbols removed soft bits rounds = Some (figures_of f.mode f.number symbols removed soft bits rounds)

-- ---- the reader

-- A reader of frames: their mode, their scrambling number and its options. Then what rotates frames back, what equalizes them,
-- and the number of quarters by which the last frame arrived rotated. Then the word that BCH decoding left last, and the data field that was
-- taken out last
pub record FrameReader : Type 0 where
  pub mode : Mode
  pub number : ℕ
  pub options : FrameOptions
  pub derotator : Derotating
  pub equalizer : Equalizing
  pub turn : ℕ
  pub word : List Bool
  pub field : List ℕ

-- its stages are of its mode and its options
pub record IsFrameReader (mode : Mode) (options : FrameOptions) (demodulates : Demodulating) (corrects reads : Mode) (derotates : Derotating) (equalizes : Equalizing) (meter : Option FigureMeter) : Type 0 where
  pub valid : IsMode mode
  pub sizes : HasCodeSizes mode
  pub demodulator : demodulates.mode ≡ mode
  pub divisor : demodulates.divisor ≡ options.divisor
  pub corrector : corrects ≡ mode
  pub messages : reads ≡ mode
  pub derotator : derotates.mode ≡ mode
  pub turns : derotates.turns ≡ options.turns
  pub equalizer : equalizes.equalizer ≡ equalizer_by options.equalize mode demodulates.number
  pub figures : meter ≡ meter_by options.figures mode demodulates.number

-- the soft values of this frame were found last: it holds the symbols that were decided, the gain removed from them, and its
-- rotation
pub record HasFrame (r : FrameReader) (symbols : List Symbol) : Type 0 where
  pub levelled_is : held_by r.equalizer.equalizer r.equalizer.symbols (upright r.derotator symbols) ≡ levelled_frame r.mode r.number r.options symbols
  pub removed_is : r.equalizer.removed ≡ removed_frame r.mode r.number r.options symbols
  pub turn_is : r.turn ≡ quarters r.mode r.options symbols

-- it reads the same frames as before
pub record IsSameReader (old new : FrameReader) : Type 0 where
  pub mode : new.mode ≡ old.mode
  pub number : new.number ≡ old.number
  pub options : new.options ≡ old.options

-- a decision, from its soft values and bits, from the results on them, and from the word and the field of a reader
abbrev pub decision_held : Mode → List ℤ → List Bool → Option View → (bch_word : List Bool) → Decided → (field : List ℕ) → Decision
decision_held m soft bits certificate bch_word d field = record {
  soft = soft;
  bits = bits;
  verdict = d.verdict;
  certificate = certificate;
  message = message_of m bch_word;
  outcome = d.outcome;
  delivered = delivered_of d.header field;
  figures = d.figures;
  energy = d.energy;
  turn = d.turn;
}

-- what a reader finds of bits and their verdict is the decision by them, whatever certificate they have
abbrev pub DecidesBy : (old new : FrameReader) → List Symbol → List ℤ → Verdict → (bits : List Bool) → (rounds : ℕ) → Decided → Type 0
DecidesBy old new symbols soft verdict bits rounds d =
    (certificate : Option View)
    → decision_held new.mode soft bits certificate new.word d new.field ≡ decision_with old.mode old.number old.options symbols soft verdict bits certificate rounds
