-- An equalizer that may be requested or not (own).
use Rattle.std.specs.Prelude.{ℕ, Bool, Option, Some, None, List, if◌then◌else◌}
use Rattle.s2_mode.specs.declared.symbols.Symbol.{Symbol}
use Rattle.s2_mode.specs.Mode.{Mode}
use Rattle.s2_equalize.specs.declared.equalizer.Removed.{Removed}
use Rattle.s2_equalize.specs.Equalizer.{Equalizer, equalized, equalizer_of, removed}

-- the symbols of a frame, equalized if that is requested
abbrev pub levelled : Mode → ℕ → (wanted : Bool) → List Symbol → List Symbol
levelled m number wanted symbols = if wanted then equalized m number symbols else symbols

-- the gain and the rotation that are removed from a frame, if it is equalized
abbrev pub removed_if : Mode → ℕ → (wanted : Bool) → List Symbol → Option Removed
removed_if m number wanted symbols = if wanted then Some (removed m number symbols) else None

-- what equalizes frames, if anything does, the symbols that it wrote last, and the gain that it removed from them
pub record Equalizing : Type 0 where
  pub equalizer : Option Equalizer
  pub symbols : List Symbol
  pub removed : Option Removed

-- the equalizer, if it is requested
abbrev pub equalizer_by : (wanted : Bool) → Mode → ℕ → Option Equalizer
equalizer_by wanted mode number = if wanted then Some (equalizer_of mode number) else None

-- the symbols that it wrote, or those that are given
abbrev pub held_by : Option Equalizer → (written symbols : List Symbol) → List Symbol
held_by None written symbols = symbols
held_by (Some e) written symbols = written

-- the gain that it removes from a frame, if there is an equalizer
abbrev pub removed_by : Option Equalizer → List Symbol → Option Removed
removed_by None symbols = None
removed_by (Some e) symbols = Some (removed e.mode e.number symbols)
