-- Several inputs one after another: a line for each, and one exit (own).
use Rattle.std.specs.Prelude.{◌≡◌, ℕ, List, [], ◌∷◌, ◌++◌}
use Rattle.s2_io.specs.declared.exit.Exit.{Exit}
use Rattle.s2_io.specs.declared.exit.Exit.TheVariants as exits

-- the maximum number of inputs of one run
abbrev pub max_each : ℕ
max_each = 4294967296

-- the exit of one line and then others: 0 only if it is 0 of each
abbrev pub worse : Exit → Exit → Exit
worse exits.Fine others = others
worse exits.Fault others = exits.Fault
worse exits.No others = exits.No

-- one line with its exit, and then more lines with theirs
pub record SaysFirst (Says More : Exit → List ℕ → Type 0) (exit : Exit) (text : List ℕ) : Type 0 where
  pub first : Exit
  pub line : List ℕ
  pub others : Exit
  pub lines : List ℕ
  pub said : Says first line
  pub more : More others lines
  pub exit_is : exit ≡ worse first others
  pub text_is : text ≡ line ++ lines

-- The line of each input, in order. The exit is 0 if it is 0 of each
unfoldable pub SaysEach : {I : Type 0} → (I → Exit → List ℕ → Type 0) → List I → Exit → List ℕ → Type 0
SaysEach Says [] exit text = (exit ≡ exits.Fine) × (text ≡ [])
SaysEach Says (input ∷ inputs) exit text = SaysFirst (Says input) (SaysEach Says inputs) exit text
