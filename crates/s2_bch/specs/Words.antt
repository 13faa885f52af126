-- Words of bits as polynomials, the first bit the highest power (EN 302 307-1, 5.3.1): products, multiples, and
-- division by a register.
use Rattle.std.specs.Prelude.{ℕ, ◌≡◌, ◌+◌, ◌-◌, Bool, false, ◌&&◌, List, [], ◌∷◌, ◌++◌, length, take, replicate}
use Rattle.s2_bits.specs.Bits.{xor, added}

-- b times the word
abbrev pub times_bit : Bool → List Bool → List Bool
times_bit b [] = []
times_bit b (c ∷ g) = (b && c) ∷ times_bit b g

-- the product of q and g, of length q + length g - 1 bits
abbrev pub product : List Bool → List Bool → List Bool
product [] g = replicate (length g - 1) false
product (b ∷ q) g = added (times_bit b g) (false ∷ product q g)

-- w is the product of some polynomial and g
abbrev pub IsMultiple : List Bool → List Bool → Type 0
IsMultiple g w = (q : List Bool) × (product q g ≡ w)

-- the word of a message: it begins with the message, is a multiple of g, and is longer by g's degree
pub record IsWordOf (g message w : List Bool) : Type 0 where
  pub front : take (length message) w ≡ message
  pub size : length w ≡ length message + (length g - 1)
  pub multiple : IsMultiple g w

-- the register after one more bit, for x^degree + t
abbrev pub register_step : List Bool → List Bool → Bool → List Bool
register_step t [] b = []
register_step t (h ∷ r) b = added (times_bit (xor h b) t) (r ++ false ∷ [])

-- the division register after all bits of a message
abbrev pub register_after : List Bool → List Bool → List Bool → List Bool
register_after t r [] = r
register_after t r (b ∷ m) = register_after t (register_step t r b) m
