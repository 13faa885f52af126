-- The lines of a report as they are read (own).
use Rattle.std.specs.Prelude.{◌≡◌, ℕ, ◌==◌, ◌<◌, nat_lt, nat_eq, nat_le, Bool, false, ◌||◌, if◌then◌else◌, List, [], ◌∷◌, ◌++◌, All, length, codes, Option, Some, None, ⊤}
use Rattle.std.specs.List.{flat_map}
use Rattle.std.specs.Cmp.Lexicographic.{pointwise}
use Rattle.s2_mode.specs.Limits.{max_symbols}
use Rattle.s2_rows.specs.Numbers.{natural_of}
use Rattle.s2_rows.specs.Text.{is_line_feed, pieces_of}
use Rattle.s2_check.specs.Verdicts.{verdict_word}
use Rattle.s2_check.specs.declared.verdict.Verdict.{Verdict}
use Rattle.s2_check.specs.declared.verdict.Verdict.TheVariants as verdicts
use Rattle.s2_report.specs.declared.entry.Frame.{Frame}
use Rattle.s2_report.specs.declared.entry.Entry.{Entry}
use Rattle.s2_report.specs.declared.entry.Entry.TheVariants as entries
use Rattle.s2_report.specs.declared.report.Report.{Report}
use Rattle.s2_report.specs.declared.report.Step.{Step}
use Rattle.s2_report.specs.declared.report.Step.TheVariants as steps
use Rattle.s2_report.specs.Limits.{line_bytes}

-- a blank separates words
abbrev pub is_blank : ℕ → Bool
is_blank b = b == 32

-- the words of a line
abbrev pub words_of : List ℕ → List (List ℕ)
words_of line = pieces_of is_blank line

-- the first word of a line, and the line after it
abbrev pub IsFirstWord : List ℕ → Option (List ℕ × List ℕ) → Type 0
IsFirstWord line None = words_of line ≡ []
IsFirstWord line (Some cut) = words_of line ≡ cut.0 ∷ words_of cut.1

-- a word is this text
abbrev pub is_text : List ℕ → List ℕ → Bool
is_text word text = pointwise nat_eq word text

-- a number below the limit of symbols
abbrev pub below_limit : Option ℕ → Option ℕ
below_limit (Some n) = if nat_lt n max_symbols then Some n else None
below_limit None = None

-- the number that a word says in decimal digits, if it is below 2^40
abbrev pub number_in : List ℕ → Option ℕ
number_in word = below_limit (natural_of word)

-- its numbers are below that limit
abbrev pub IsSmall : Frame → Type 0
IsSmall frame = (frame.number < max_symbols) × (frame.at < max_symbols)

-- so are those of an entry
abbrev pub IsSmallEntry : Entry → Type 0
IsSmallEntry (entries.Frame frame) = IsSmall frame
IsSmallEntry entries.Other = ⊤

-- the verdict that a word names
abbrev pub verdict_in : List ℕ → Option Verdict
verdict_in word =
    if is_text word (verdict_word verdicts.Sole) then Some verdicts.Sole
    else if is_text word (verdict_word verdicts.MostLikely) then Some verdicts.MostLikely
    else if is_text word (verdict_word verdicts.Parity) then Some verdicts.Parity
    else if is_text word (verdict_word verdicts.Broken) then Some verdicts.Broken
    else None

-- the frame of two numbers and a verdict, if all three are there
abbrev pub frame_with : Option ℕ → Option ℕ → Option Verdict → Option Frame
frame_with (Some number) (Some at) (Some verdict) = Some (record { number = number; at = at; verdict = verdict })
frame_with (Some number) (Some at) None = None
frame_with (Some number) None verdict = None
frame_with None at verdict = None

-- the frame of the words after `frame`: its number, `at`, its symbol, its verdict, and any more
abbrev pub frame_of : List (List ℕ) → Option Frame
frame_of (number ∷ at ∷ symbol ∷ verdict ∷ more) =
    if is_text at (codes "at") then frame_with (number_in number) (number_in symbol) (verdict_in verdict) else None
frame_of words = None

abbrev pub entry_with : Option Frame → Option Entry
entry_with (Some frame) = Some (entries.Frame frame)
entry_with None = None

-- parses a line: `frame` begins the line of a frame, `cut` and `end` begin other lines
abbrev pub entry_of : List (List ℕ) → Option Entry
entry_of [] = None
entry_of (word ∷ words) =
    if is_text word (codes "frame") then entry_with (frame_of words)
    else if is_text word (codes "cut") || is_text word (codes "end") then Some entries.Other
    else None

-- parses a line; a readable line has at most 639 bytes
abbrev pub entry_in : List ℕ → Option Entry
entry_in line = if nat_le (length line) line_bytes then entry_of (words_of line) else None

-- the number that a word says, if it is below 2^32; else 0
abbrev pub small_or_zero : Option ℕ → ℕ
small_or_zero (Some n) = if nat_lt n 4294967296 then n else 0
small_or_zero None = 0

-- the number that the first of these words says
abbrev pub first_number : List (List ℕ) → ℕ
first_number [] = 0
first_number (word ∷ words) = small_or_zero (number_in word)

-- the rounds of a frame's line with figures: the number after the word `rounds`; 0 if there is none
abbrev pub rounds_in : List (List ℕ) → ℕ
rounds_in [] = 0
rounds_in (word ∷ words) = if is_text word (codes "rounds") then first_number words else rounds_in words

-- no byte of a line is LF
abbrev pub IsLine : List ℕ → Type 0
IsLine line = All (λ b. is_line_feed b ≡ false) line

-- the bytes of lines, an LF after each
abbrev pub text_of : List (List ℕ) → List ℕ
text_of lines = flat_map (λ line. line ++ 10 ∷ []) lines

-- ---- lines that were written, read

-- a line with its LF is read as this entry
pub record IsReadAs (line : List ℕ) (entry : Entry) : Type 0 where
  pub text : List ℕ
  pub is : line ≡ text ++ 10 ∷ []
  pub whole : IsLine text
  pub says : entry_in text ≡ Some entry

-- what a reader needs of the report of a frame
abbrev pub frame_of_report : Report → Frame
frame_of_report r = record { number = r.number; at = r.at; verdict = r.verdict }

-- the entry of a step's line
abbrev pub entry_of_step : Step → Entry
entry_of_step (steps.Frame report) = entries.Frame (frame_of_report report)
entry_of_step (steps.Cut at count) = entries.Other
entry_of_step steps.End = entries.Other
