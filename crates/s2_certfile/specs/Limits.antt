-- The limits of certificate files (own).
use Rattle.std.specs.Prelude.{ℕ}

-- the largest scale; the least is 1
abbrev pub max_scale : ℕ
max_scale = 4096

-- the most shares: 24 for each bit of the longest codeword
abbrev pub max_shares : ℕ
max_shares = 1555200
