-- What a mode carries (own).
use Rattle.std.specs.Prelude.{◌≡◌, ℕ, ◌+◌, ◌-◌, ◌*◌, ◌/◌, ◌≤◌}
use Rattle.s2_mode.specs.Mode.{Mode, kbch_of, symbols_in}
use Rattle.s2_names.specs.declared.rate.TheConstants.{MAX_RATE}

-- the bits of a transport stream in a frame: those of its data field, which follows the header of 80 bits
abbrev pub stream_bits : Mode → ℕ
stream_bits m = kbch_of m - 80

-- millionths of a quotient, to the nearest one, and from a half on the next
abbrev pub millionths : ℕ → ℕ → ℕ
millionths over under = (2000000 * over + under) / (2 * under)

-- millionths of a bit of the transport stream for each symbol
abbrev pub symbol_millionths : Mode → ℕ
symbol_millionths m = millionths (stream_bits m) (symbols_in m)

-- the highest symbol rate, in symbols per second
abbrev pub max_rate : ℕ
max_rate = 1000000000

-- a symbol rate: 1 to `max_rate` symbols per second
pub record IsRate (rate : ℕ) : Type 0 where
  pub some : 1 ≤ rate
  pub most : rate ≤ max_rate

-- the whole bits of the transport stream per second, at a symbol rate
abbrev pub stream_rate : ℕ → Mode → ℕ
stream_rate rate m = rate * stream_bits m / symbols_in m

-- the limit that the code tests is this
abbrev pub LimitsLaw : Type 0
LimitsLaw = MAX_RATE ≡ max_rate
