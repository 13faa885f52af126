-- Symbol rates as texts (own).
use Rattle.std.specs.Prelude.{◌≡◌, ℕ, ◌+◌, ◌-◌, ◌*◌, ◌^◌, ◌≤◌, ◌⊎◌, ◌==◌, ◌&&◌, ◌||◌, List, [], ◌∷◌, ◌++◌, length, codes, Option, Some, None, if◌then◌else◌}
use Rattle.std.specs.Char.{is_ascii_digit}
use Rattle.std.specs.List.{AllPass}
use Rattle.s2_names.specs.Rates.{IsRate}

-- the bytes are decimal digits, at least one
pub record AreDigits (bytes : List ℕ) : Type 0 where
  pub some : 1 ≤ length bytes
  pub each : AllPass is_ascii_digit bytes

-- the number that digits write after those of `n`
abbrev pub number_after : ℕ → List ℕ → ℕ
number_after n [] = n
number_after n (digit ∷ digits) = number_after (n * 10 + (digit - 48)) digits

-- the power of ten that ends a text: none, `k` or `K` for a thousand, `M` for a million, or `e` or `E` and a digit
abbrev pub power_of : List ℕ → Option ℕ
power_of [] = Some 0
power_of (letter ∷ []) = if letter == 107 || letter == 75 then Some 3 else if letter == 77 then Some 6 else None
power_of (letter ∷ digit ∷ []) = if (letter == 101 || letter == 69) && is_ascii_digit digit then Some (digit - 48) else None
power_of (first ∷ second ∷ third ∷ others) = None

-- after its first digits a text has a point, digits and an ending, or an ending at once
abbrev pub HasFraction : List ℕ → List ℕ → List ℕ → Type 0
HasFraction rest fraction ending = ((rest ≡ ending) × (fraction ≡ [])) ⊎ ((rest ≡ codes "." ++ (fraction ++ ending)) × AreDigits fraction)

-- a number is digits with a point before the last ones, times a power of ten
abbrev pub IsScaled : List ℕ → List ℕ → ℕ → ℕ → Type 0
IsScaled whole fraction power number = number * 10 ^ length fraction ≡ number_after 0 (whole ++ fraction) * 10 ^ power

-- the text writes this rate, as `27500000`, `27.5M`, `27500k` or `27.5e6`
pub record IsRateText (text : List ℕ) (rate : ℕ) : Type 0 where
  pub whole : List ℕ
  pub rest : List ℕ
  pub fraction : List ℕ
  pub ending : List ℕ
  pub power : ℕ
  pub front : text ≡ whole ++ rest
  pub digits : AreDigits whole
  pub behind : HasFraction rest fraction ending
  pub scale : power_of ending ≡ Some power
  pub value : IsScaled whole fraction power rate
  pub range : IsRate rate

-- a text writes one rate
abbrev pub OneRateLaw : Type 0
OneRateLaw = (text : List ℕ) (a b : ℕ) → IsRateText text a → IsRateText text b → a ≡ b
