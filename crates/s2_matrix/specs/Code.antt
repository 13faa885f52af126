-- A code by its parity checks, and its codewords (EN 302 307-1, 5.3.2).
use Rattle.std.specs.Prelude.{◌≡◌, ℕ, ◌+◌, ◌*◌, ◌/◌, ◌%◌, ◌<◌, Bool, ◌||◌, nat_lt, ◌==◌, if◌then◌else◌, List, length, count_by, filter, map, sum_by}
use Rattle.std.specs.List.{list_any, position_or_len}
use Rattle.s2_bits.specs.Bits.{bit_at}
use Rattle.s2_mode.specs.Shape.{information_bits, check_count, code_bits}
use Rattle.s2_rows.specs.Rows.{Rows, row_of}
use Rattle.s2_matrix.specs.Total.{upto}

-- how many bits and how many checks, and whether a check has a bit
pub record Code : Type 0 where
  pub bits : ℕ
  pub checks : ℕ
  pub has : ℕ → ℕ → Bool

-- the bits of a check, rising
abbrev pub members : Code → ℕ → List ℕ
members code j = filter (code.has j) (upto code.bits)

-- the checks of a bit, rising
abbrev pub checks_of : Code → ℕ → List ℕ
checks_of code i = filter (λ j. code.has j i) (upto code.checks)

-- how many members of a check hold a one
abbrev pub ones_in : Code → List Bool → ℕ → ℕ
ones_in code word j = count_by (bit_at word) (members code j)

-- as long as the code, and an even number of ones in each check
pub record IsCodeword (code : Code) (word : List Bool) : Type 0 where
  pub long : length word ≡ code.bits
  pub even : (j : ℕ) → j < code.checks → ones_in code word j % 2 ≡ 0

-- the first check with an odd number of ones
pub record IsOddCheck (code : Code) (word : List Bool) (j : ℕ) : Type 0 where
  pub within : j < code.checks
  pub odd : ones_in code word j % 2 ≡ 1
  pub first : (i : ℕ) → i < j → ones_in code word i % 2 ≡ 0

-- ---- edges: the pairs of a check and its bit, check by check, bits rising

-- how many edges the checks before check j have together
abbrev pub first_edge : Code → ℕ → ℕ
first_edge code j = sum_by (λ i. length (members code i)) (upto j)

-- the edge of check j and its bit i
abbrev pub edge_of : Code → ℕ → ℕ → ℕ
edge_of code j i = first_edge code j + position_or_len (λ m. m == i) (members code j)

-- the edges of a bit, in the order of its checks
abbrev pub edges_at : Code → ℕ → List ℕ
edges_at code i = map (λ j. edge_of code j i) (checks_of code i)

-- ---- the code of accepted rows

-- bit b is at place m = b mod group in its group; some address x of the group's row gives check (x + m q) mod (n - k)
abbrev pub row_gives : Rows → ℕ → ℕ → Bool
row_gives r j b =
    list_any (λ x. (x + b % r.shape.group * r.shape.q) % check_count r.shape == j) (row_of r (b / r.shape.group))

-- an information bit is in the checks that its row gives; parity bit j in check j and in check j + 1
abbrev pub is_member : Rows → ℕ → ℕ → Bool
is_member r j b =
    if nat_lt b (information_bits r.shape)
    then row_gives r j b
    else (b == information_bits r.shape + j) || (b + 1 == information_bits r.shape + j)

-- the code of accepted rows: n bits, n - k checks, and the members that `is_member` gives
abbrev pub code_of : Rows → Code
code_of r =
    record { bits = code_bits r.shape; checks = check_count r.shape; has = is_member r }
