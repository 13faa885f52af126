-- Where packets can begin, by their sync bytes (own).
use Rattle.std.specs.Prelude.{ℕ, ◌+◌, ◌*◌, ◌==◌, nat_lt, Bool, ◌&&◌, if◌then◌else◌, List, length, slice_index, Option, Some, None}
use Rattle.s2_bbframe.specs.Limits.{sync}

-- whether a place has a sync byte
abbrev pub has_sync : List ℕ → ℕ → Bool
has_sync bytes place = nat_lt place (length bytes) && (slice_index bytes place == sync)

-- whether five sync bytes follow each other at a distance, from a place on
abbrev pub has_five : List ℕ → ℕ → ℕ → Bool
has_five bytes place distance =
    has_sync bytes place && (has_sync bytes (place + distance) && (has_sync bytes (place + 2 * distance)
    && (has_sync bytes (place + 3 * distance) && has_sync bytes (place + 4 * distance))))

-- the least distance at which five sync bytes follow each other from a place on: that of packets of 188 bytes, of those with
-- four bytes of a time code (192), or of those with 16 Reed-Solomon bytes (204)
abbrev pub distance_at : List ℕ → ℕ → Option ℕ
distance_at bytes place =
    if has_five bytes place 188 then Some 188 else if has_five bytes place 192 then Some 192 else if has_five bytes place 204 then Some 204 else None
