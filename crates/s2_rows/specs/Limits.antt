-- The limit of row files (own).
use Rattle.std.specs.Prelude.{◌≡◌, ℕ}
use Rattle.s2_rows.specs.declared.limits.TheConstants.{MAX_ADDRESSES}

-- the most addresses of a row
abbrev pub max_addresses : ℕ
max_addresses = 24

-- the limit that the code tests is this
abbrev pub LimitsLaw : Type 0
LimitsLaw = MAX_ADDRESSES ≡ max_addresses
