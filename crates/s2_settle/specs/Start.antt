-- The rests before any move: scaled soft values in favour of the word (own).
use Rattle.std.specs.Prelude.{ℕ, ◌+◌, ◌-◌, ◌*◌, ◌/◌, ◌%◌, Bool, if◌then◌else◌, List, map, replicate, ℤ, unsigned_abs}
use Rattle.s2_mode.specs.Shape.{code_bits}
use Rattle.s2_rows.specs.Rows.{Rows}
use Rattle.s2_matrix.specs.Total.{upto}
use Rattle.s2_check.specs.Cost.{value_at}
use Rattle.s2_check.specs.Hard.{differs}
use Rattle.s2_minsum.specs.Layout.{bit_of}
pub use Rattle.s2_settle.specs.Plain.{settling_scale}
use Rattle.s2_settle.specs.Rests.{zero_rest}
use Rattle.s2_settle.specs.Layer.{Held}

-- the scaled soft value, in favour of the word
abbrev pub started : List ℤ → List Bool → ℕ → ℕ
started soft word i =
    if differs soft word i then zero_rest - settling_scale * unsigned_abs (value_at soft i) else zero_rest + settling_scale * unsigned_abs (value_at soft i)

-- these rests in rows, and no moves
abbrev pub start : Rows → List ℤ → List Bool → Held
start rows soft word = record {
  rests = map (λ p. started soft word (bit_of rows.shape (p / rows.shape.group) (p % rows.shape.group))) (upto (code_bits rows.shape));
  targets = replicate (rows.shape.q * rows.shape.group) 0;
  amounts = replicate (rows.shape.q * rows.shape.group) 0;
}
