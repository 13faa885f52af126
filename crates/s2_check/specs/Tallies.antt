-- What a tally has of the first ones of some numbers (own).
use Rattle.std.specs.Prelude.{◌≡◌, ℕ, ◌*◌, ◌<◌, ◌≤◌, min, Bool, List, take, count_by, fold, ℤ, pos, neg_ℤ, ◌≤ℤ◌, int_lt, unsigned_abs}
use Rattle.std.specs.Int.{int_min}
use Rattle.s2_matrix.specs.Total.{total}

-- the sum of the negative numbers, how many there are, and the least magnitude, or M if that is less
abbrev pub negatives : List ℤ → ℤ
negatives xs = total (int_min (pos 0)) xs

abbrev pub is_negative : ℤ → Bool
is_negative x = int_lt x (pos 0)

abbrev pub least_magnitude : ℕ → List ℤ → ℕ
least_magnitude M xs = fold (λ m x. min m (unsigned_abs x)) M xs

-- the first i of these were taken in
pub record IsTally (sum : ℤ) (count magnitude i : ℕ) (xs : List ℤ) : Type 0 where
  pub sum_is : sum ≡ negatives (take i xs)
  pub count_is : count ≡ count_by is_negative (take i xs)
  pub magnitude_is : magnitude ≡ least_magnitude 4294967295 (take i xs)
  pub small : 0 < i → magnitude ≤ 2147483648
  pub low : neg_ℤ (pos (2147483648 * i)) ≤ℤ sum
  pub high : sum ≤ℤ pos 0
  pub few : count ≤ i
