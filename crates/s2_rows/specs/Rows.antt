-- Address rows (EN 302 307-1, 5.3.2): for each group of information bits the addresses of its first bit.
use Rattle.std.specs.Prelude.{◌≡◌, ◌≢◌, ℕ, ◌<◌, ◌≤◌, All, AllPairs, List, [], length, get_or}
use Rattle.s2_mode.specs.Shape.{Shape, IsShape, check_count}
use Rattle.s2_rows.specs.Limits.{max_addresses}

-- a shape, and a row for each of its groups
pub record Rows : Type 0 where
  pub shape : Shape
  pub rows : List (List ℕ)

-- the rows of a shape and a list
abbrev pub rows_value : Shape → List (List ℕ) → Rows
rows_value shape rows = record { shape = shape; rows = rows }

-- addresses of checks, each once
pub record AreAddresses (checks : ℕ) (row : List ℕ) : Type 0 where
  pub below : All (λ x. x < checks) row
  pub apart : AllPairs (λ x y. x ≢ y) row

-- the row of group g
abbrev pub row_of : Rows → ℕ → List ℕ
row_of r g = get_or r.rows g []

-- what a row file holds: for each group a row of one to 24 addresses
pub record IsRows (r : Rows) : Type 0 where
  pub shaped : IsShape r.shape
  pub long : length r.rows ≡ r.shape.groups
  pub each : (g : ℕ) → g < r.shape.groups → AreAddresses (check_count r.shape) (row_of r g)
  pub some : (g : ℕ) → g < r.shape.groups → 1 ≤ length (row_of r g)
  pub short : (g : ℕ) → g < r.shape.groups → length (row_of r g) ≤ max_addresses
