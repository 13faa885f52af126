-- Lanes of a vector: numbers, and bits as numbers (own).
use Rattle.std.specs.Prelude.{◌≡◌, ◌<◌, ℕ, Bool, List, [], ◌∷◌, length, slice_index_or}
use Rattle.s2_bits.specs.Bits.{number}

-- the number in lane k
abbrev pub lane : List ℕ → ℕ → ℕ
lane v k = slice_index_or v k 0

-- v has n lanes, and lane k holds f k
pub record HasLanes (n : ℕ) (f : ℕ → ℕ) (v : List ℕ) : Type 0 where
  pub long : length v ≡ n
  pub each : (k : ℕ) → k < n → lane v k ≡ f k

-- eight bits as the lanes of a vector
abbrev pub eight : (ℕ → Bool) → List ℕ
eight f = number (f 0) ∷ number (f 1) ∷ number (f 2) ∷ number (f 3) ∷ number (f 4) ∷ number (f 5) ∷ number (f 6) ∷ number (f 7) ∷ []
