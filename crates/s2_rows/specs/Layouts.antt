-- Layouts of a line: separators around its tokens, comments, and zeros before digits (own).
use Rattle.std.specs.Prelude.{◌≡◌, ℕ, ◌⊎◌, IsTrue, List, [], ◌∷◌, ◌++◌, replicate, decimal, ⊤}
use Rattle.s2_rows.specs.Text.{is_space}

-- spaces, tabs and CRs
abbrev pub AreSpaces : List ℕ → Type 0
AreSpaces [] = ⊤
AreSpaces (b ∷ bytes) = IsTrue (is_space b) × AreSpaces bytes

-- a token ends at one of these or at the end of its line
abbrev pub EndsToken : List ℕ → Type 0
EndsToken [] = ⊤
EndsToken (b ∷ bytes) = IsTrue (is_space b)

-- an ignored line: separators alone, or separators and a comment, which begins with #
abbrev pub IsIgnored : List ℕ → Type 0
IsIgnored line = AreSpaces line ⊎ ((gap : List ℕ) × (comment : List ℕ) × (line ≡ gap ++ 35 ∷ comment) × AreSpaces gap)

-- some zeros, then the digits of a number
abbrev pub digits_of : ℕ → ℕ → List ℕ
digits_of zeros n = replicate zeros 48 ++ decimal n
