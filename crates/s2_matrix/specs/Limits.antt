-- Limits (own).
use Rattle.std.specs.Prelude.{ℕ, ◌*◌}
use Rattle.s2_mode.specs.Limits.{max_bits}
use Rattle.s2_rows.specs.Limits.{max_addresses}

-- no code has more edges, since each of its bits is in at most `max_addresses` checks
abbrev pub max_edges : ℕ
max_edges = max_addresses * max_bits
