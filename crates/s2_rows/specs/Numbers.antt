-- Decimal numbers (own).
use Rattle.std.specs.Prelude.{ℕ, ◌+◌, ◌-◌, ◌*◌, ◌&&◌, nat_le, Bool, List, [], ◌∷◌, Option, Some, None, if◌then◌else◌}

-- a byte is a decimal digit
abbrev pub is_digit : ℕ → Bool
is_digit b = nat_le 48 b && nat_le b 57

-- the number that goes on with these digits, if they are digits
unfoldable pub digits_from : ℕ → List ℕ → Option ℕ
digits_from n [] = Some n
digits_from n (b ∷ bytes) = if is_digit b then digits_from (n * 10 + (b - 48)) bytes else None

-- digits only, leading zeros allowed
abbrev pub natural_of : List ℕ → Option ℕ
natural_of [] = None
natural_of (b ∷ bytes) = digits_from 0 (b ∷ bytes)
