-- The codeword of some information bits (EN 302 307-1, 5.3.2).
use Rattle.std.specs.Prelude.{◌≡◌, ℕ, ◌<◌, Bool, List, length}
use Rattle.s2_bits.specs.Bits.{bit_at}
use Rattle.s2_mode.specs.Shape.{information_bits}
use Rattle.s2_rows.specs.Rows.{Rows}
use Rattle.s2_matrix.specs.Code.{Code, code_of, IsCodeword}

-- a codeword that begins with the information bits
pub record IsCodewordOf (code : Code) (info codeword : List Bool) : Type 0 where
  pub in_code : IsCodeword code codeword
  pub begins : (i : ℕ) → i < length info → bit_at codeword i ≡ bit_at info i

-- two codewords that begin with the same k information bits are the same
abbrev pub UniqueLaw : Type 0
UniqueLaw =
    (r : Rows) (info a b : List Bool)
    → length info ≡ information_bits r.shape
    → IsCodewordOf (code_of r) info a
    → IsCodewordOf (code_of r) info b
    → a ≡ b
