-- Lists in one piece (own).
use Rattle.std.specs.Prelude.{◌≡◌, ℕ, ◌+◌, ◌-◌, ◌≤◌, ◌<◌, List, map, length, get_or, slice_range}
use Rattle.s2_matrix.specs.Total.{upto}

-- the pieces of items that begin at the places in first; the last number in first is the end of the last
abbrev pub cut : List ℕ → List ℕ → List (List ℕ)
cut first items = map (λ j. slice_range items (get_or first j 0) (get_or first (j + 1) 0)) (upto (length first - 1))

-- places that cut a list into pieces: they begin at 0, never fall, and end at the list's length
pub record IsCut (first items : List ℕ) : Type 0 where
  pub some : 1 ≤ length first
  pub starts : get_or first 0 0 ≡ 0
  pub rises : (j : ℕ) → j + 1 < length first → get_or first j 0 ≤ get_or first (j + 1) 0
  pub within : (j : ℕ) → j < length first → get_or first j 0 ≤ length items
  pub ends : get_or first (length first - 1) 0 ≡ length items
