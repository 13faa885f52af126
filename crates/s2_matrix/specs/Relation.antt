-- The members of a check by a relation, a rule for each way in which a bit joins a check (EN 302 307-1, 5.3.2).
use Rattle.std.specs.Prelude.{◌≡◌, ◌↔◌, ℕ, ◌+◌, ◌*◌, ◌%◌, ◌<◌, ◌≤◌, IsTrue, Contains}
use Rattle.s2_mode.specs.Shape.{information_bits, check_count}
use Rattle.s2_rows.specs.Rows.{Rows, row_of}
use Rattle.s2_matrix.specs.Code.{is_member}

-- A rule for each way into a check. `by_row`: bit m of group g is added to parity bit (x + m q) mod (n - k), for each
-- address x of row g. `parity`: a parity bit is in its own check. `next`: the accumulator carries it into the next
-- check
pub data IsMember (r : Rows) (j b : ℕ) : Type 0 where
  by_row : (g m x : ℕ) → g < r.shape.groups → m < r.shape.group → Contains (row_of r g) x → b ≡ g * r.shape.group + m → (x + m * r.shape.q) % check_count r.shape ≡ j → IsMember r j b
  parity : b ≡ information_bits r.shape + j → IsMember r j b
  next : information_bits r.shape ≤ b → b + 1 ≡ information_bits r.shape + j → IsMember r j b

-- the test and the relation say the same
abbrev pub MemberLaw : Type 0
MemberLaw = (r : Rows) (j b : ℕ) → 1 ≤ r.shape.group → IsTrue (is_member r j b) ↔ IsMember r j b
