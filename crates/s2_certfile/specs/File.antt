-- The contents of a certificate file (own).
use Rattle.std.specs.Prelude.{◌≡◌, ℕ, ◌<◌, ◌≤◌, List, Bool, length, All, FitsSigned, ℤ, pos, neg_ℤ, ◌≤ℤ◌}
use Rattle.std.specs.Int.{w32}
use Rattle.s2_mode.specs.Shape.{Shape, IsShape, check_count, code_bits}
use Rattle.s2_mode.specs.Limits.{max_soft}
use Rattle.s2_certfile.specs.Limits.{max_scale, max_shares}
use Rattle.s2_certfile.specs.declared.step.Move.{Move}

-- the split of a file: a share for each edge, check by check, members rising; or a move for each check
pub data Split : Type 0 where
  Listed : List ℤ → Split
  Moved : List Move → Split

-- a shape, a scale, a soft value and a bit for each place of a codeword, and a split
pub record File : Type 0 where
  pub shape : Shape
  pub scale : ℕ
  pub soft : List ℤ
  pub bits : List Bool
  pub split : Split

-- from -511 to 511
pub record IsSoft (v : ℤ) : Type 0 where
  pub low : neg_ℤ (pos max_soft) ≤ℤ v
  pub high : v ≤ℤ pos max_soft

-- the target's place among the members of its check in two bytes, an amount below 2^31, and place 0 if the amount is 0
pub record IsMove (m : Move) : Type 0 where
  pub place_fits : m.place < 65536
  pub amount_fits : m.amount < 2147483648
  pub unmoved : m.amount ≡ 0 → m.place ≡ 0

-- not too many shares, of 32 bits; or a move for each check
abbrev pub IsSplit : Shape → Split → Type 0
IsSplit s (Listed shares) = (length shares ≤ max_shares) × All (FitsSigned w32) shares
IsSplit s (Moved moves) = (length moves ≡ check_count s) × All IsMove moves

-- what a certificate file can say: a shape, a scale within its limits, a soft value in its range and a bit for each
-- place, and a split
pub record IsFile (f : File) : Type 0 where
  pub shaped : IsShape f.shape
  pub scale_some : 1 ≤ f.scale
  pub scale_most : f.scale ≤ max_scale
  pub soft_long : length f.soft ≡ code_bits f.shape
  pub soft_range : All IsSoft f.soft
  pub bits_long : length f.bits ≡ code_bits f.shape
  pub split : IsSplit f.shape f.split
