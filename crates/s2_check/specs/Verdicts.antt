-- Verdicts on decided bits: the words of reports, and whether there is a certificate (own).
use Rattle.std.specs.Prelude.{ℕ, List, Bool, true, false, codes}
use Rattle.s2_check.specs.declared.verdict.Verdict.{Verdict}
use Rattle.s2_check.specs.declared.verdict.Verdict.TheVariants.{Sole, MostLikely, Parity, Broken}

-- the word of a verdict in reports
abbrev pub verdict_word : Verdict → List ℕ
verdict_word Sole = codes "sole"
verdict_word MostLikely = codes "most-likely"
verdict_word Parity = codes "parity"
verdict_word Broken = codes "broken"

-- most likely bits have a certificate, and no others
abbrev pub is_certified : Verdict → Bool
is_certified Sole = true
is_certified MostLikely = true
is_certified Parity = false
is_certified Broken = false
