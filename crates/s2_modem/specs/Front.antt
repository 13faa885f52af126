-- A frame without noise, from the mapper to the soft values, and its figures (EN 302 307-1, 5.1 to 5.5).
use Rattle.std.specs.Prelude.{◌≡◌, ℕ, ◌*◌, pos, Bool, if◌then◌else◌, List, length, map, take, Option, Some, None}
use Rattle.std.specs.List.{sum_by}
use Rattle.s2_mode.specs.Limits.{header_symbols}
use Rattle.s2_mode.specs.Mode.{Mode, IsMode, n_of}
use Rattle.s2_mode.specs.Symbols.{symbol_at}
use Rattle.s2_mode.specs.declared.symbols.Symbol.{Symbol}
use Rattle.s2_map.specs.Constants.{diagonal}
use Rattle.s2_map.specs.Mapping.{payload_of}
use Rattle.s2_plframe.specs.Frame.{frame_symbols}
use Rattle.s2_plframe.specs.Payload.{received_payload}
use Rattle.s2_plframe.specs.Search.{decision, found}
use Rattle.s2_plframe.specs.declared.receive.found.Found.TheVariants as founds
use Rattle.s2_soft.specs.Divisors.{IsDivisor}
use Rattle.s2_soft.specs.Soft.{soft_values}
use Rattle.s2_soft.specs.Clean.{DecidesTo}
use Rattle.s2_message.specs.Errors.{known_places, payload_places}
use Rattle.s2_message.specs.Figures.{sent_frame}
use Rattle.s2_message.specs.Header.{symbol_energy}
use Rattle.s2_tuning.specs.Tuning.{Tuning}
use Rattle.s2_report.specs.declared.figures.Correlation.{Correlation}
use Rattle.s2_report.specs.declared.figures.Figures.{Figures}
use Rattle.s2_equalize.specs.declared.equalizer.Removed.{Removed}
use Rattle.s2_equalize.specs.Complex.{complex}
use Rattle.s2_equalize.specs.Gains.{no_turn}

-- the header of a codeword's frame is found, and the soft values of its payload by this divisor say the codeword; none
-- of them is 0
pub record IsCleanFrame (divisor : ℕ) (m : Mode) (number : ℕ) (codeword : List Bool) : Type 0 where
  pub header : found m (map decision (take header_symbols (frame_symbols m number (payload_of m codeword)))) ≡ founds.Coded
  pub soft : DecidesTo (soft_values divisor m (received_payload m number (frame_symbols m number (payload_of m codeword)))) codeword

-- every codeword has a frame without noise as `IsCleanFrame` says, with each divisor and in each mode
abbrev pub CleanFrameLaw : Type 0
CleanFrameLaw =
    (divisor : ℕ) (m : Mode) (number : ℕ) (codeword : List Bool) → IsDivisor divisor → IsMode m → length codeword ≡ n_of m → IsCleanFrame divisor m number codeword

-- the energy of a frame at some places
abbrev pub energy_at : List ℕ → List Symbol → ℕ
energy_at places sent = sum_by (λ i. symbol_energy (symbol_at sent i)) places

-- the correlation of a frame with itself: the gain is 1
abbrev pub clean_correlation : List ℕ → List Symbol → Correlation
clean_correlation places sent = record { power = energy_at places sent; along = pos (energy_at places sent); across = pos 0 }

-- the equalizer removes from a frame without noise a gain of 1, and no rotation
abbrev pub clean_removed : Removed
clean_removed = record { gain = complex (pos 1024) (pos 0); rotation = no_turn }

-- the figures of a codeword's frame without noise, equalized or not: no wrong bit, no round, no error
abbrev pub clean_figures : (equalize : Bool) → Mode → ℕ → List Bool → Figures
clean_figures equalize m number codeword =
    record {
      header = 0;
      rounds = 0;
      changed = record { sum = 0; of = n_of m };
      known = record { sum = 0; of = length (known_places m) };
      payload = record { sum = 0; of = length (payload_places m) };
      known_correlation = clean_correlation (known_places m) (sent_frame m number codeword);
      payload_correlation = clean_correlation (payload_places m) (sent_frame m number codeword);
      removed = if equalize then Some clean_removed else None;
    }

-- if the tuning asks for them
abbrev pub clean_figures_by : Tuning → Mode → ℕ → List Bool → Option Figures
clean_figures_by tuning m number codeword = if tuning.figures then Some (clean_figures tuning.equalize m number codeword) else None

-- the energy of a header without noise: each of its symbols has 700 for I and Q, or -700
abbrev pub clean_energy : ℕ
clean_energy = header_symbols * (2 * (diagonal * diagonal))
