-- The decision on a frame's symbols (EN 302 307-1, 5.1 to 5.5).
use Rattle.std.specs.Prelude.{◌≡◌, ℕ, Bool, false, List, replicate, Option, None, ℤ, pos}
use Rattle.s2_mode.specs.Mode.{Mode, kbch_of, n_of}
use Rattle.s2_mode.specs.declared.symbols.Symbol.{Symbol}
use Rattle.s2_receive.specs.Receiving.{Decision}
use Rattle.s2_report.specs.declared.figures.Figures.{Figures}
use Rattle.s2_link.specs.Link.{Link}
use Rattle.s2_judge.specs.Deciding.{Decided, decided, rounds_run}
use Rattle.s2_tuning.specs.Tuning.{Tuning}
use Rattle.s2_message.specs.declared.options.FrameOptions.{FrameOptions}
use Rattle.s2_message.specs.Decisions.{upright_frame, quarters, levelled_frame, soft_frame, word_decision, bits_decision, figures_with, decision_with}

-- how frames are read by a tuning
abbrev pub options_of : Tuning → FrameOptions
options_of tuning = record { divisor = tuning.divisor; turns = tuning.turns; equalize = tuning.equalize; figures = tuning.figures }

-- the symbols of a frame, rotated back by its rotation if the tuning says so
abbrev pub upright_symbols : Link → Tuning → List Symbol → List Symbol
upright_symbols link tuning = upright_frame link.setup.mode (options_of tuning)

-- the symbols that are decided: these, each divided by the gain of the channel if the tuning has the equalizer
abbrev pub decided_symbols : Link → Tuning → List Symbol → List Symbol
decided_symbols link tuning = levelled_frame link.setup.mode link.setup.number (options_of tuning)

-- the number of quarters by which they arrived rotated
abbrev pub frame_turn : Link → Tuning → List Symbol → ℕ
frame_turn link tuning = quarters link.setup.mode (options_of tuning)

-- the soft values of a frame's codeword, by the divisor of a tuning
abbrev pub frame_soft : Link → Tuning → List Symbol → List ℤ
frame_soft link tuning = soft_frame link.setup.mode link.setup.number (options_of tuning)

-- the decision on bits and their verdict, with or without a BCH word
abbrev pub decision_by : Mode → List ℤ → Decided → Option (List Bool) → Decision
decision_by m soft d = word_decision m soft d.verdict d.bits d.certificate

-- the decision before the first frame: zeros, and no certificate
pub record IsUndecided (m : Mode) (d : Decision) : Type 0 where
  pub soft : d.soft ≡ replicate (n_of m) (pos 0)
  pub bits : d.bits ≡ replicate (n_of m) false
  pub certificate : d.certificate ≡ None
  pub message : d.message ≡ replicate (kbch_of m) false

-- the decision on soft values: bits and verdict; then the nearest BCH word; then the header in its message
abbrev pub decision_on : Mode → List ℤ → Decided → Decision
decision_on m soft d = bits_decision m soft d.verdict d.bits d.certificate

-- the figures of the symbols that were decided, and of the decided bits, if the tuning has figures
abbrev pub figures_by : Link → Tuning → List Symbol → Option Figures
figures_by link tuning symbols =
    figures_with link.setup.mode link.setup.number (options_of tuning) symbols (frame_soft link tuning symbols) (decided link.rows tuning (frame_soft link tuning symbols)).bits (rounds_run link.rows tuning (frame_soft link tuning symbols))

-- the decision on a frame's symbols with these soft values, by the bits that are decided of them
abbrev pub decision_of : Link → Tuning → List Symbol → List ℤ → Decided → Decision
decision_of link tuning symbols soft d =
    decision_with link.setup.mode link.setup.number (options_of tuning) symbols soft d.verdict d.bits d.certificate (rounds_run link.rows tuning soft)

-- the decision on a frame's symbols: soft values, bits, verdict, certificate, message, outcome, header and data field. The
-- figures, if they are requested, the energy of the header's symbols, and the number of quarters by which they arrived rotated
unfoldable pub frame_decision : Link → Tuning → List Symbol → Decision
frame_decision link tuning symbols = decision_of link tuning symbols (frame_soft link tuning symbols) (decided link.rows tuning (frame_soft link tuning symbols))
