-- The limit of a join, and the size of a header (own).
use Rattle.std.specs.Prelude.{◌≡◌, ◌^◌, ℕ}
use Rattle.s2_records.specs.declared.limits.TheConstants.{HEADER_BYTES, MAX_FRAMES}

-- the bytes of a BBHEADER (EN 302 307-1, 5.1.6)
abbrev pub header_size : ℕ
header_size = 10

-- the maximum number of BBFRAMEs of one join
abbrev pub max_frames : ℕ
max_frames = 2 ^ 40

-- the numbers that the code works with are these
pub record LimitsLaw : Type 0 where
  pub header : HEADER_BYTES ≡ header_size
  pub frames : MAX_FRAMES ≡ max_frames
