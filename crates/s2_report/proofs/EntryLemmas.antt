-- The words of a line.
use Rattle.std.proofs.Common.{◌≡◌, ℕ, List, [], ◌∷◌, length, refl, arith}
use Rattle.s2_rows.specs.Text.{pieces_of}
use Rattle.s2_report.specs.Entries.{words_of}

pub no_words : (line : List ℕ) → length line ≡ 0 → words_of line ≡ []
unfolding pieces_of
no_words [] e = refl
no_words (b ∷ line) e = absurd (omega arith)
