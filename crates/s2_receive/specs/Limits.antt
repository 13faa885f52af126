-- The limit of a receiver (own).
use Rattle.std.specs.Prelude.{◌≡◌, ◌^◌, ℕ}
use Rattle.s2_receive.specs.declared.limits.TheConstants.{MAX_SYMBOLS}

-- the most symbols that a receiver takes in all
abbrev pub max_symbols : ℕ
max_symbols = 2 ^ 62

-- the limit that the code tests is this
pub record LimitsLaw : Type 0 where
  pub symbols : MAX_SYMBOLS ≡ max_symbols
