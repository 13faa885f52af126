-- The lines of a comparison (own).
use Rattle.std.specs.Prelude.{ℕ, ℤ, ◌+◌, List, [], ◌∷◌, ◌++◌, codes, decimal}
use Rattle.std.specs.Fmt.{signed_decimal}
use Rattle.s2_check.specs.Verdicts.{verdict_word}
use Rattle.s2_compare.specs.declared.compared.Compared.{Compared}
use Rattle.s2_compare.specs.declared.compared.Compared.TheVariants as answers
use Rattle.s2_compare.specs.declared.counts.Counts.{Counts}

-- ` changed B`
abbrev pub changed_text : ℕ → List ℕ
changed_text changed = codes " changed " ++ decimal changed

-- a text, and an answer after it
abbrev pub answer_text : List ℕ → Compared → List ℕ
answer_text text (answers.Same verdict paid) = ((text ++ codes " same ") ++ verdict_word verdict) ++ (codes " cost " ++ signed_decimal paid)
answer_text text (answers.Equal paid changed) = (text ++ (codes " equal cost " ++ signed_decimal paid)) ++ changed_text changed
answer_text text (answers.Worse paid best changed) = ((text ++ (codes " worse cost " ++ signed_decimal paid)) ++ (codes " best " ++ signed_decimal best)) ++ changed_text changed
answer_text text (answers.NoCodeword checks changed) = (text ++ (codes " no-codeword checks " ++ decimal checks)) ++ changed_text changed
answer_text text answers.Refused = text ++ codes " refused"
answer_text text answers.Missing = text ++ codes " missing"

-- `frame I`
abbrev pub frame_text : ℕ → List ℕ
frame_text number = codes "frame " ++ decimal number

-- the line of a frame, with LF
abbrev pub frame_line : ℕ → Compared → List ℕ
frame_line number answer = answer_text (frame_text number) answer ++ codes "\n"

-- the lines of frames that compare in this way; the first frame has this number
abbrev pub lines_from : ℕ → List Compared → List ℕ
lines_from number [] = []
lines_from number (answer ∷ more) = frame_line number answer ++ lines_from (number + 1) more

-- ---- the last line

abbrev pub front_counts : Counts → List ℕ
front_counts counts = (((codes "end frames " ++ decimal counts.frames) ++ (codes " same " ++ decimal counts.same)) ++ (codes " equal " ++ decimal counts.equal)) ++ (codes " worse " ++ decimal counts.worse)

-- `end frames F same S equal E worse W no-codeword N refused R missing M` with LF
abbrev pub counts_line : Counts → List ℕ
counts_line counts =
    (((front_counts counts ++ (codes " no-codeword " ++ decimal counts.no_codeword)) ++ (codes " refused " ++ decimal counts.refused)) ++ (codes " missing " ++ decimal counts.missing)) ++ codes "\n"
