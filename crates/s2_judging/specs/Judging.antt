-- What `judge` prints of soft values (own).
use Rattle.std.specs.Prelude.{◌≡◌, ℕ, ℤ, Bool, Option, Some, None, List, length, codes, if◌then◌else◌}
use Rattle.s2_bits.specs.Bits.{differences}
use Rattle.s2_check.specs.Hard.{hard_decision}
use Rattle.s2_matrix.specs.Code.{IsOddCheck, IsCodeword, code_of}
use Rattle.s2_rows.specs.Rows.{Rows}
use Rattle.s2_check.specs.Cost.{cost, IsMostLikely}
use Rattle.s2_check.specs.Strict.{IsSole}
use Rattle.s2_check.specs.declared.verdict.Verdict.{Verdict}
use Rattle.s2_check.specs.declared.verdict.Verdict.TheVariants as verdicts
use Rattle.s2_tuning.specs.Limits.{default_rounds}
use Rattle.s2_tuning.specs.Tuning.{Tuning, tuning_of}
use Rattle.s2_judge.specs.Deciding.{Decided, decided}
use Rattle.s2_io.specs.declared.exit.Exit.{Exit}
use Rattle.s2_io.specs.declared.exit.Exit.TheVariants as exits
use Rattle.s2_mode.specs.Shape.{shape_of}
use Rattle.s2_io.specs.Exits.{CommandExits}
use Rattle.s2_io.specs.Screens.{Screen}
use Rattle.s2_judging.specs.Inputs.{AreInputs}
use Rattle.s2_evidence.specs.Lines.{cost_text}
use Rattle.s2_judging.specs.Lines.{ended_line, broken_text}

-- each other codeword costs more than the bits
pub record SaysSole (rows : Rows) (soft : List ℤ) (bits : List Bool) (changed : Option ℕ) (exit : Exit) (text : List ℕ) : Type 0 where
  pub sole : IsSole (code_of rows) soft bits
  pub line : text ≡ ended_line (cost_text verdicts.Sole (cost soft bits)) changed
  pub fine : exit ≡ exits.Fine

-- the bits are most likely
pub record SaysMostLikely (rows : Rows) (soft : List ℤ) (bits : List Bool) (changed : Option ℕ) (exit : Exit) (text : List ℕ) : Type 0 where
  pub likely : IsMostLikely (code_of rows) soft bits
  pub line : text ≡ ended_line (cost_text verdicts.MostLikely (cost soft bits)) changed
  pub fine : exit ≡ exits.Fine

-- the bits satisfy every check
pub record SaysParity (rows : Rows) (soft : List ℤ) (bits : List Bool) (changed : Option ℕ) (exit : Exit) (text : List ℕ) : Type 0 where
  pub codeword : IsCodeword (code_of rows) bits
  pub line : text ≡ ended_line (cost_text verdicts.Parity (cost soft bits)) changed
  pub answer_is_no : exit ≡ exits.No

-- the bits do not, and this is their first odd check
pub record SaysBroken (rows : Rows) (soft : List ℤ) (bits : List Bool) (changed : Option ℕ) (exit : Exit) (text : List ℕ) : Type 0 where
  pub check : ℕ
  pub odd : IsOddCheck (code_of rows) bits check
  pub line : text ≡ ended_line (broken_text (cost soft bits) check) changed
  pub answer_is_no : exit ≡ exits.No

-- by the verdict on the bits
abbrev pub Says : Verdict → Rows → List ℤ → List Bool → (changed : Option ℕ) → Exit → List ℕ → Type 0
Says verdicts.Sole rows soft bits changed exit text = SaysSole rows soft bits changed exit text
Says verdicts.MostLikely rows soft bits changed exit text = SaysMostLikely rows soft bits changed exit text
Says verdicts.Parity rows soft bits changed exit text = SaysParity rows soft bits changed exit text
Says verdicts.Broken rows soft bits changed exit text = SaysBroken rows soft bits changed exit text

-- of decided bits: in how many bits they differ from the input, if that has hard decisions
abbrev pub changed_of : (hard : Bool) → List ℤ → List Bool → Option ℕ
changed_of hard soft bits = if hard then Some (differences (length soft) (hard_decision soft) bits) else None

-- the exit and the text are those of a decision
abbrev pub SaysDecided : (hard : Bool) → Decided → Rows → List ℤ → Exit → List ℕ → Type 0
SaysDecided hard d rows soft exit text = Says d.verdict rows soft d.bits (changed_of hard soft d.bits) exit text

-- they say what a receiver with this tuning decides on soft values
abbrev pub IsJudged : (hard : Bool) → Tuning → Rows × List ℤ → Exit → List ℕ → Type 0
IsJudged hard tuning input exit text = SaysDecided hard (decided input.0 tuning input.1) input.0 input.1 exit text

-- the verdict that the program without arguments prints: most likely, also if the bits are sole
abbrev pub own_verdict : Verdict → Verdict
own_verdict verdicts.Sole = verdicts.MostLikely
own_verdict verdicts.MostLikely = verdicts.MostLikely
own_verdict verdicts.Parity = verdicts.Parity
own_verdict verdicts.Broken = verdicts.Broken

abbrev pub SaysOwn : Decided → Rows → List ℤ → Exit → List ℕ → Type 0
SaysOwn d rows soft exit text = Says (own_verdict d.verdict) rows soft d.bits None exit text

-- in at most the default rounds, without passes
abbrev pub IsOwn : Rows × List ℤ → Exit → List ℕ → Type 0
IsOwn input exit text = SaysOwn (decided input.0 (tuning_of default_rounds 0) input.1) input.0 input.1 exit text

-- the program without arguments has ended: so it ran on the values of its input under the toy rows
abbrev pub OwnExits : Option (List ℕ) → ℕ → ℕ → Screen → Screen → Exit → Type 0
OwnExits soft reads reads_after old new exit =
    CommandExits IsOwn (AreInputs (shape_of 4 2 3) (Some (codes "0 4 8\n0 1 2\n")) soft) reads reads_after old new exit
