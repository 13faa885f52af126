-- The limits of codes, soft values, headers and streams (own).
use Rattle.std.specs.Prelude.{◌≡◌, ◌+◌, ◌*◌, ◌^◌, ℕ}
use Rattle.s2_mode.specs.declared.limits.TheConstants.{DUMMY_SYMBOLS, HEADER_SYMBOLS, MAX_BITS, MAX_GROUP, MAX_MODCOD, MAX_SOFT, MAX_SYMBOLS}

-- the most bits of a codeword: those of a normal frame (EN 302 307-1, table 5a)
abbrev pub max_bits : ℕ
max_bits = 64800

-- the most bits of a group: those of the standard's codes (EN 302 307-1, 5.3.2)
abbrev pub max_group : ℕ
max_group = 360

-- the largest MODCOD: 8PSK 9/10 (EN 302 307-1, table 12)
abbrev pub max_modcod : ℕ
max_modcod = 17

-- the largest soft value; the least is its negative
abbrev pub max_soft : ℕ
max_soft = 511

-- the symbols of a physical layer header, which are also its bits (EN 302 307-1, 5.5.2)
abbrev pub header_symbols : ℕ
header_symbols = 90

-- the symbols of a dummy frame: a header and 36 slots of 90 (EN 302 307-1, 5.5.1)
abbrev pub dummy_symbols : ℕ
dummy_symbols = header_symbols + 90 * 36

-- the most symbols of a stream that one call, one command or one receiver takes
abbrev pub max_symbols : ℕ
max_symbols = 2 ^ 40

-- the limits that the code tests are these
pub record LimitsLaw : Type 0 where
  pub bits : MAX_BITS ≡ max_bits
  pub group : MAX_GROUP ≡ max_group
  pub modcod : MAX_MODCOD ≡ max_modcod
  pub soft : MAX_SOFT ≡ max_soft
  pub header : HEADER_SYMBOLS ≡ header_symbols
  pub dummy : DUMMY_SYMBOLS ≡ dummy_symbols
  pub symbols : MAX_SYMBOLS ≡ max_symbols
