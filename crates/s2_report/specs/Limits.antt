-- The limit of a line (own).
use Rattle.std.specs.Prelude.{◌≡◌, ℕ}
use Rattle.s2_report.specs.declared.limits.TheConstants.{MAX_LINE_BYTES}

-- the maximum length of a readable line in bytes, without its LF
abbrev pub line_bytes : ℕ
line_bytes = 639

-- the limit that the code tests is this
pub record LimitsLaw : Type 0 where
  pub line : MAX_LINE_BYTES ≡ line_bytes
