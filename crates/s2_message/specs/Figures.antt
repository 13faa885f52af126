-- The figures of a decided frame (own). They compare the symbols that were decided with the frame that carries the decided word,
-- and the decided word with the hard decision.
use Rattle.std.specs.Prelude.{ℕ, Bool, ℤ, List, Option, length}
use Rattle.std.specs.List.{sum_by}
use Rattle.s2_mode.specs.declared.symbols.Symbol.{Symbol}
use Rattle.s2_mode.specs.Mode.{Mode, n_of}
use Rattle.s2_bits.specs.Bits.{differences}
use Rattle.s2_check.specs.Hard.{hard_decision}
use Rattle.s2_equalize.specs.declared.equalizer.Removed.{Removed}
use Rattle.s2_map.specs.Mapping.{payload_of}
use Rattle.s2_plframe.specs.Frame.{frame_symbols}
use Rattle.s2_report.specs.declared.figures.Figures.{Figures}
use Rattle.s2_report.specs.declared.figures.Tally.{Tally}
use Rattle.s2_message.specs.Header.{header_errors}
use Rattle.s2_message.specs.Errors.{error_at, known_places, payload_places}
use Rattle.s2_message.specs.Correlation.{correlation_over}

-- the frame that carries a word
abbrev pub sent_frame : Mode → ℕ → List Bool → List Symbol
sent_frame m number word = frame_symbols m number (payload_of m word)

-- the number of positions in which a word differs from the hard decision, of n
abbrev pub changed_bits : Mode → List ℤ → List Bool → Tally
changed_bits m soft word = record { sum = differences (n_of m) (hard_decision soft) word; of = n_of m }

-- the squared distances at some places of a frame, summed, and the number of these places
abbrev pub error_over : List ℕ → List Symbol → List Symbol → Tally
error_over places received sent = record { sum = sum_by (error_at received sent) places; of = length places }

-- the figures of a frame, from the symbols that were decided, the gain that the equalizer removed from them, the soft values, the
-- decided word and the rounds of min-sum that were run
unfoldable pub figures_of : Mode → ℕ → List Symbol → Option Removed → List ℤ → List Bool → ℕ → Figures
figures_of m number symbols removed soft word rounds =
    record {
      header = header_errors m symbols;
      rounds = rounds;
      changed = changed_bits m soft word;
      known = error_over (known_places m) symbols (sent_frame m number word);
      payload = error_over (payload_places m) symbols (sent_frame m number word);
      known_correlation = correlation_over (known_places m) symbols (sent_frame m number word);
      payload_correlation = correlation_over (payload_places m) symbols (sent_frame m number word);
      removed = removed;
    }

-- what figures are found for: frames of a mode, with a scrambling number
pub record FigureMeter : Type 0 where
  pub mode : Mode
  pub number : ℕ

-- for these
abbrev pub meter_of : Mode → ℕ → FigureMeter
meter_of mode number = record { mode = mode; number = number }
