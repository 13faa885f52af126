-- The differences of least squared distances in closed form, for the clauses of the code itself (own).
use Rattle.std.specs.Prelude.{ℕ, ◌*◌, ◌-◌, ℤ, pos, neg_ℤ, ◌+ℤ◌, ◌-ℤ◌, ◌*ℤ◌, ◌≤ℤ◌}
use Rattle.std.specs.Int.{int_max}
use Rattle.s2_map.specs.Constants.{diagonal, axis as on_axis}

-- QPSK: of a component
abbrev pub component_difference : ℤ → ℤ
component_difference c = pos (4 * diagonal) *ℤ c

-- 8PSK: twice the inner products with (A, A) and (A, -A), and of a component with (B, 0)
abbrev pub along : ℤ → ℤ → ℤ
along i q = pos (2 * diagonal) *ℤ (i +ℤ q)

abbrev pub across : ℤ → ℤ → ℤ
across i q = pos (2 * diagonal) *ℤ (i -ℤ q)

abbrev pub axis : ℤ → ℤ
axis c = pos (2 * on_axis) *ℤ c

-- the difference of the squared lengths of a point on an axis and of one between the axes
abbrev pub longer : ℕ
longer = on_axis * on_axis - 2 * diagonal * diagonal

-- the greatest of twice the inner products with two points between the axes and two on them
abbrev pub nearest : ℤ → ℤ → ℤ → ℤ → ℤ
nearest a b x y = int_max (int_max a b +ℤ pos longer) (int_max x y)

-- the points with 0 at the place of the bit, less those with 1
abbrev pub first_difference : ℤ → ℤ → ℤ
first_difference i q = nearest (along i q) (neg_ℤ (along i q)) (axis i) (neg_ℤ (axis i)) -ℤ nearest (across i q) (neg_ℤ (across i q)) (axis q) (neg_ℤ (axis q))

abbrev pub second_difference : ℤ → ℤ → ℤ
second_difference i q = nearest (along i q) (across i q) (axis i) (axis q) -ℤ nearest (neg_ℤ (along i q)) (neg_ℤ (across i q)) (neg_ℤ (axis i)) (neg_ℤ (axis q))

abbrev pub third_difference : ℤ → ℤ → ℤ
third_difference i q = nearest (along i q) (neg_ℤ (across i q)) (neg_ℤ (axis i)) (axis q) -ℤ nearest (neg_ℤ (along i q)) (across i q) (axis i) (neg_ℤ (axis q))

-- the range of twice an inner product with a symbol of 16 bits
pub record IsInner (z : ℤ) : Type 0 where
  pub low : neg_ℤ (pos 100000000) ≤ℤ z
  pub high : z ≤ℤ pos 100000000

pub record IsNearest (z : ℤ) : Type 0 where
  pub low : neg_ℤ (pos 100000100) ≤ℤ z
  pub high : z ≤ℤ pos 100000100
