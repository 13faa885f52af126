-- Bits as bytes.
use Rattle.std.proofs.Common.{◌≡◌, List, Bool, length}
use Rattle.std.proofs.lemmas.List.{length-map}
use Rattle.s2_library.specs.Copying.{digit, digits_of}

-- there is a byte for each bit
pub digits_long : (bits : List Bool) → length (digits_of bits) ≡ length bits
digits_long bits = length-map bits digit
