-- The repair of a hard decision, bit by bit (own).
use Rattle.std.specs.Prelude.{ℕ, Bool, not, if◌then◌else◌, List}
use Rattle.s2_bits.specs.Bits.{bit_at}
use Rattle.s2_matrix.specs.Code.{Code}
use Rattle.s2_split.specs.Scattered.{is_suspect}

-- a bit of the repair: flipped where it is suspect
abbrev pub repaired_bit : Code → List Bool → ℕ → Bool
repaired_bit code hard i =
    if is_suspect code hard i then not (bit_at hard i) else bit_at hard i
