-- The first bytes of a reader (own).
use Rattle.std.specs.Prelude.{ℕ, List, take, Option, None, Some}

-- the first bytes of what a reader still gives, if these are known; without a number all of them
abbrev pub begin_of : Option ℕ → Option (List ℕ) → Option (List ℕ)
begin_of None known = known
begin_of (Some count) None = None
begin_of (Some count) (Some bytes) = Some (take count bytes)
