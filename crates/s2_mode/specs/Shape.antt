-- The shape of a code whose rows are repeated by groups (EN 302 307-1, 5.3.2), and the numbers that follow from it.
use Rattle.std.specs.Prelude.{ℕ, ◌+◌, ◌*◌, ◌≤◌}
use Rattle.s2_mode.specs.Limits.{max_bits, max_group}

-- the size of a group, how many groups of information bits, and how far a group's next bit moves
pub record Shape : Type 0 where
  pub group : ℕ
  pub groups : ℕ
  pub q : ℕ

-- k
abbrev pub information_bits : Shape → ℕ
information_bits s = s.group * s.groups

-- n - k: the number of checks, and of parity bits
abbrev pub check_count : Shape → ℕ
check_count s = s.group * s.q

-- n
abbrev pub code_bits : Shape → ℕ
code_bits s = s.group * (s.groups + s.q)

-- a group of 1 to 360, at least one group of information bits and one of checks, and at most 64800 bits
pub record IsShape (s : Shape) : Type 0 where
  pub group_some : 1 ≤ s.group
  pub group_most : s.group ≤ max_group
  pub groups_some : 1 ≤ s.groups
  pub q_some : 1 ≤ s.q
  pub few : code_bits s ≤ max_bits

-- the shape of these numbers: the size of a group, how many groups there are, and q
abbrev pub shape_of : ℕ → ℕ → ℕ → Shape
shape_of group groups q = record { group = group; groups = groups; q = q }
