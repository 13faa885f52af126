-- A bit as a byte of a program.
use Rattle.std.proofs.Common.{◌≡◌, Bool, true, false, refl}
use mir.Val.{bool_byte}
use Rattle.s2_bits.specs.Bits.{number}

-- a bit as a program makes it a byte
pub byte_of_bit : (b : Bool) → bool_byte b ≡ number b
byte_of_bit true = refl
byte_of_bit false = refl
