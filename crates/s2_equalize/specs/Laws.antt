-- The law of the equalizer (own).
use Rattle.std.specs.Prelude.{◌≡◌, ℕ, ◌*◌, ◌≤◌, pos, ◌*ℤ◌, unsigned_abs, List, map}
use Rattle.s2_mode.specs.declared.symbols.Symbol.{Symbol}
use Rattle.s2_mode.specs.Symbols.{symbol, symbol_at}
use Rattle.s2_mode.specs.Mode.{Mode, IsMode}
use Rattle.s2_scramble.specs.Rotations.{rotated}
use Rattle.s2_plframe.specs.Frame.{frame_symbols}
use Rattle.s2_equalize.specs.Equalizer.{equalized}

-- a symbol multiplied by a whole number, and rotated by quarters
abbrev pub arrived : (gain quarters : ℕ) → Symbol → Symbol
arrived gain quarters s = rotated quarters (symbol (pos gain *ℤ s.i) (pos gain *ℤ s.q))

-- no component is larger than 4095, nor does it overflow when it is multiplied
pub record IsModerate (gain : ℕ) (s : Symbol) : Type 0 where
  pub i : unsigned_abs s.i ≤ 4095
  pub q : unsigned_abs s.q ≤ 4095
  pub i_fits : gain * unsigned_abs s.i ≤ 32767
  pub q_fits : gain * unsigned_abs s.q ≤ 32767

-- A frame arrives without noise, times a gain that is a whole number, and rotated by quarter turns: the equalizer returns the
-- frame that was sent. The largest gain with which a header does not overflow is 46
abbrev pub ExactLaw : Type 0
ExactLaw =
    (m : Mode) (number gain quarters : ℕ) (payload : List Symbol) → IsMode m → 1 ≤ gain → gain ≤ 46 → ((k : ℕ) → IsModerate gain (symbol_at payload k))
    → equalized m number (map (arrived gain quarters) (frame_symbols m number payload)) ≡ frame_symbols m number payload
