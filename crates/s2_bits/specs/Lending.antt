-- A slice lent to write to (own).
use Rattle.std.specs.Prelude.{List, Bool, length}
use Rattle.std.specs.List.{refill}
use Rattle.std.specs.Borrow.{Lends, MutBor, Fml, Array, bool}
use Rattle.s2_bits.specs.contracts.bits.Bits.{the_row}

-- the bits are what the borrower leaves in the slice; its length is unchanged
abbrev pub LendsTruths : MutBor (List Bool) → MutBor (List Bool) → Fml
LendsTruths b r = Lends the_row (Array bool 0) b r (refill (length b.now) b.now)
