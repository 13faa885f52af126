-- Lists that are copied to a caller's buffer (own).
use Rattle.std.specs.Prelude.{◌≡◌, ℕ, ◌<◌, ◌≤◌, List, ◌++◌, length, drop, map, Bool, if◌then◌else◌, Result, Ok, Err}
use Rattle.s2_library.specs.declared.refusal.Refusal.{Refusal}
use Rattle.s2_library.specs.declared.refusal.Refusal.TheVariants.{TooShort}

-- the list is at the front of the buffer, whose rest is unchanged; or the buffer is too short, and nothing changes
abbrev pub Fits : {A T : Type 0} → (items old new : List A) → Result T Refusal → Type 0
Fits items old new (Ok done) = (length items ≤ length old) × (new ≡ items ++ drop (length items) old)
Fits items old new (Err refusal) = (refusal ≡ TooShort) × (length old < length items) × (new ≡ old)

-- a list is copied to a buffer, and its length is given
pub record Copies {A T : Type 0} (items old new : List A) (count : ℕ) (result : Result T Refusal) : Type 0 where
  pub counted : count ≡ length items
  pub fits : Fits items old new result

-- a bit as a byte
abbrev pub digit : Bool → ℕ
digit bit = if bit then 1 else 0

-- bits, a byte for each
abbrev pub digits_of : List Bool → List ℕ
digits_of = map digit
