-- Transposed bits of planes, eight planes and eight lanes at a time, so that the bits of each lane follow one another
-- (own).
use Rattle.std.specs.Prelude.{◌≡◌, ℕ, ◌+◌, ◌-◌, ◌*◌, ◌/◌, ◌<◌, ◌≤◌, Bool, List, ◌++◌, length}
use Rattle.s2_bits.specs.Bits.{xor, bit_at}
use Rattle.s2_bits.specs.Lanes.{eight}
use Rattle.s2_matrix.specs.Sums.{sum_of}
use Rattle.s2_matrix.specs.Planes.{plane_place}

-- eight rows of eight bits, one after another
abbrev pub eight_rows : (ℕ → ℕ → Bool) → List ℕ
eight_rows f = eight (f 0) ++ eight (f 1) ++ eight (f 2) ++ eight (f 3) ++ eight (f 4) ++ eight (f 5) ++ eight (f 6) ++ eight (f 7)

-- the sum of the lanes before a lane; the last plane holds the sum of each
abbrev pub carry_at : ℕ → ℕ → List Bool → ℕ → Bool
carry_at group q planes lane = sum_of (λ l. bit_at planes ((q - 1) * group + l)) lane

-- the sum of the checks up to check j; each plane holds the sums of its lanes up to it
abbrev pub accumulated : ℕ → ℕ → List Bool → ℕ → Bool
accumulated group q planes j = xor (carry_at group q planes (j / q)) (bit_at planes (plane_place group q j))

-- n places from a place on hold what f gives, and so does each place that did before
pub record Fills (f : ℕ → Bool) (at n : ℕ) (old now : List Bool) : Type 0 where
  pub long : length now ≡ length old
  pub here : (k : ℕ) → at ≤ k → k < at + n → bit_at now k ≡ f k
  pub kept : (k : ℕ) → bit_at old k ≡ f k → bit_at now k ≡ f k

-- eight pieces of n places from a place on, each q places after the one before, hold what f gives, and so does each
-- place that did before
pub record FillsEight (f : ℕ → Bool) (at n q : ℕ) (old now : List Bool) : Type 0 where
  pub long : length now ≡ length old
  pub here : (l r : ℕ) → l < 8 → r < n → bit_at now (at + l * q + r) ≡ f (at + l * q + r)
  pub kept : (k : ℕ) → bit_at old k ≡ f k → bit_at now k ≡ f k
