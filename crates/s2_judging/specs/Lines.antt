-- The lines of verdicts (own).
use Rattle.std.specs.Prelude.{ℕ, ℤ, List, ◌++◌, codes, decimal, Option, Some, None}
use Rattle.s2_check.specs.declared.verdict.Verdict.TheVariants as verdicts
use Rattle.s2_evidence.specs.Lines.{cost_text}

-- a line, with ` changed B` at its end if B is known, and LF
abbrev pub ended_line : List ℕ → Option ℕ → List ℕ
ended_line line None = line ++ codes "\n"
ended_line line (Some changed) = (line ++ (codes " changed " ++ decimal changed)) ++ codes "\n"

-- of bits that are not a codeword: their cost, and their first odd check
abbrev pub broken_text : ℤ → ℕ → List ℕ
broken_text cost check = cost_text verdicts.Broken cost ++ (codes " check " ++ decimal check)
