-- What an ascent holds (own).
use Rattle.std.specs.Prelude.{◌≡◌, ℕ, Bool, List, ℤ}
use Rattle.s2_rows.specs.Rows.{Rows}
use Rattle.s2_matrix.specs.Code.{code_of}
use Rattle.s2_check.specs.Moves.{Move, AreMoves}
use Rattle.s2_check.specs.Views.{View}
use Rattle.s2_minsum.specs.Decoding.{AreFit, HasRoom}
use Rattle.s2_settle.specs.Layer.{Held, AreLong}
use Rattle.s2_settle.specs.Settled.{moved_view}

-- the rows of an ascent's matrix, and the moves that it made last, check by check
pub record Settling : Type 0 where
  pub rows : Rows
  pub moves : List Move

-- the certificate of these values and this word by the moves that were made last
abbrev pub view_by : Settling → List ℤ → List Bool → View
view_by s soft word = moved_view s.rows soft word s.moves

-- the invariant of an ascent's lists
pub record IsDualAscent (rows layered : Rows) (h : Held) (ms : List Move) (scratch : ℕ) : Type 0 where
  pub layers : layered ≡ rows
  pub fit : AreFit rows
  pub long : AreLong rows h
  pub room : HasRoom rows scratch
  pub moves : AreMoves (code_of rows) ms
