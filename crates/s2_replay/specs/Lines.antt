-- The lines of a report beside those of the receiver's own loop (own).
use Rattle.std.specs.Prelude.{◌≡◌, ℕ, Bool, if◌then◌else◌, List, ◌++◌, codes, decimal}
use Rattle.s2_check.specs.Verdicts.{verdict_word}
use Rattle.s2_check.specs.declared.verdict.Verdict.{Verdict}

-- bytes begin with these
abbrev pub BeginsWith : (front bytes : List ℕ) → Type 0
BeginsWith front bytes = (rest : List ℕ) × (bytes ≡ front ++ rest)

-- the compared part of the line of a frame with unknown bits: frame I at SYMBOL VERDICT, and whether it is lost
unfoldable pub claimed_words : (number at : ℕ) → Verdict → (lost : Bool) → List ℕ
claimed_words number at verdict lost =
    codes "frame " ++ decimal number ++ codes " at " ++ decimal at ++ codes " " ++ verdict_word verdict ++ codes " " ++ (if lost then codes "lost" else codes "fixed ")

-- the compared part of the end line after such a frame: end frames F
unfoldable pub counted_words : (frames : ℕ) → List ℕ
counted_words frames = codes "end frames " ++ decimal frames ++ codes " "
