-- Rows with rising addresses, and the digest of their text (own).
use Rattle.std.specs.Prelude.{◌≡◌, ◌↔◌, IsTrue, ℕ, ◌<◌, Bool, List, [], length, get_or}
use Rattle.std.specs.List.Sorted.{IsPermutation, IsNonDecreasing}
use Rattle.hex.specs.Hex.{encode_lower}
use Rattle.sha2.specs.Sha256.{sha256}
use Rattle.s2_rows.specs.Rows.{Rows, row_of}
use Rattle.s2_rows.specs.RowTexts.{rows_text}

-- the same addresses, rising
pub record IsRisen (row risen : List ℕ) : Type 0 where
  pub same : IsPermutation row risen
  pub rising : IsNonDecreasing risen

-- each row of the groups so
pub record AreRisen (r : Rows) (risen : List (List ℕ)) : Type 0 where
  pub long : length risen ≡ r.shape.groups
  pub each : (g : ℕ) → g < r.shape.groups → IsRisen (row_of r g) (get_or risen g [])

-- the answer whether their text, which is that of a row file, has this SHA-256 in hexadecimal digits
abbrev pub HasSum : Rows → List ℕ → Bool → Type 0
HasSum r sum answer = (risen : List (List ℕ)) × AreRisen r risen × (IsTrue answer ↔ (encode_lower (sha256 (rows_text risen)) ≡ sum))

-- rows have one list of risen rows
abbrev pub OneRisenLaw : Type 0
OneRisenLaw = (r : Rows) (a b : List (List ℕ)) → AreRisen r a → AreRisen r b → a ≡ b

-- so whether they have a SHA-256 has one answer
abbrev pub OneAnswerLaw : Type 0
OneAnswerLaw = (r : Rows) (sum : List ℕ) (a b : Bool) → HasSum r sum a → HasSum r sum b → a ≡ b
