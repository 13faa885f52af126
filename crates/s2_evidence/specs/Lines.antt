-- The front of a verdict's line, and the lines of the checker's results (own).
use Rattle.std.specs.Prelude.{ℕ, ℤ, List, ◌++◌, codes, decimal, if◌then◌else◌}
use Rattle.std.specs.Fmt.{signed_decimal}
use Rattle.s2_check.specs.Verdicts.{verdict_word}
use Rattle.s2_check.specs.declared.verdict.Verdict.{Verdict}
use Rattle.s2_check.specs.declared.verdict.Verdict.TheVariants as verdicts
use Rattle.s2_check.specs.declared.checker.Answer.{Answer}
use Rattle.s2_check.specs.declared.checker.Examined.{Examined}
use Rattle.s2_check.specs.declared.checker.Answer.TheVariants as answers
use Rattle.s2_check.specs.declared.checker.Refusal.TheVariants as refusals

-- a verdict, and the cost of the bits
abbrev pub cost_text : Verdict → ℤ → List ℕ
cost_text verdict cost = verdict_word verdict ++ (codes " cost " ++ signed_decimal cost)

-- of bits that are more likely than any other codeword
abbrev pub sole_line : ℤ → List ℕ
sole_line cost = cost_text verdicts.Sole cost ++ codes "\n"

-- the checker's result, with the cost of the bits
abbrev pub answer_text : ℤ → Answer → List ℕ
answer_text cost answers.Yes = codes "yes cost " ++ signed_decimal cost
answer_text cost (answers.No refusals.OtherShape) = codes "no shape"
answer_text cost (answers.No (refusals.OddCheck check)) = codes "no check " ++ decimal check
answer_text cost (answers.No refusals.BoundBelow) = codes "no bound"

-- the line of a checker's result, with LF
abbrev pub answer_line : ℤ → Answer → List ℕ
answer_line cost answer = answer_text cost answer ++ codes "\n"

-- the line of a certificate: `sole` if it is strict, else the checker's result
abbrev pub examined_line : ℤ → Examined → List ℕ
examined_line cost found = if found.strict then sole_line cost else answer_line cost found.answer
