-- The interleaver loses no bit and sends none twice (EN 302 307-1, 5.3.3).
use Rattle.std.specs.Prelude.{◌≡◌, ℕ, ◌<◌}
use Rattle.s2_mode.specs.Mode.{Mode, IsMode, n_of}
use Rattle.s2_map.specs.Mapping.{place_of, sent_as}

-- places below n, each at exactly one index below n
pub record IsPermutation (n : ℕ) (place : ℕ → ℕ) : Type 0 where
  pub within : (i : ℕ) → i < n → place i < n
  pub each : (b : ℕ) → b < n → (i : ℕ) × (i < n) × (place i ≡ b)
  pub once : (i j : ℕ) → i < n → j < n → place i ≡ place j → i ≡ j

-- each bit of the codeword is the place of exactly one payload bit: the one that it is sent as
pub record IsInterleaver (m : Mode) : Type 0 where
  pub permutes : IsPermutation (n_of m) (place_of m)
  pub sent : (i : ℕ) → i < n_of m → sent_as m (place_of m i) ≡ i
  pub back : (b : ℕ) → b < n_of m → (sent_as m b < n_of m) × (place_of m (sent_as m b) ≡ b)

-- the interleaver of every mode sends each bit of a codeword as exactly one payload bit
abbrev pub InterleaverLaw : Type 0
InterleaverLaw = (m : Mode) → IsMode m → IsInterleaver m
