-- The limit of an audit, and the size of a certificate in its file (own).
use Rattle.std.specs.Prelude.{◌≡◌, ℕ, ◌+◌, ◌*◌, ◌/◌, ◌^◌}
use Rattle.s2_mode.specs.Mode.{Mode, n_of, q_of}
use Rattle.s2_audit.specs.declared.limits.TheConstants.{MAX_LINES}

-- the maximum number of lines of a report
abbrev pub max_lines : ℕ
max_lines = 2 ^ 40

-- the bytes of a certificate of version 2 of a mode: the header of 13, two for each soft value, the bits, and six for
-- each check's move
abbrev pub certificate_bytes : Mode → ℕ
certificate_bytes m = 13 + 2 * n_of m + (n_of m + 7) / 8 + 6 * (360 * q_of m)

-- the limit that the code tests is this
pub record LimitsLaw : Type 0 where
  pub lines : MAX_LINES ≡ max_lines
