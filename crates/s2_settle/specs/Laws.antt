-- Laws of a settled certificate, and that rows and lanes are checks and members (own).
use Rattle.std.specs.Prelude.{◌≡◌, ℕ, ◌<◌, Bool, All, List, ℤ, Some}
use Rattle.s2_rows.specs.Rows.{Rows}
use Rattle.s2_matrix.specs.Code.{code_of, IsCodeword}
use Rattle.s2_check.specs.Views.{View, IsSoft}
use Rattle.s2_check.specs.Strict.{IsStrict}
use Rattle.s2_settle.specs.declared.course.Step.{Step}
use Rattle.s2_settle.specs.Plain.{State}
use Rattle.s2_settle.specs.Plain as plain
use Rattle.s2_settle.specs.Layer.{Held, layer}
use Rattle.s2_settle.specs.Start.{start}
use Rattle.s2_settle.specs.Settled.{settled}
use Rattle.s2_minsum.specs.Decoding.{AreFit}
use Rattle.s2_settle.specs.Shows.{IsShown}

-- it is accepted, strict, and of these values and this word
abbrev pub SettledLaw : Type 0
SettledLaw =
    (rows : Rows) (soft : List ℤ) (word : List Bool) (passes : ℕ) (view : View) → IsCodeword (code_of rows) word → settled rows soft word passes ≡ Some view → IsStrict rows view × (view.soft ≡ soft) × (view.bits ≡ word)

-- the rows before any move show the state without moves
abbrev pub StartLaw : Type 0
StartLaw =
    (rows : Rows) (soft : List ℤ) (word : List Bool) → AreFit rows → All IsSoft soft → IsShown rows (start rows soft word) (plain.start soft word)

-- if rows and lanes show a state, they show its layer after their layer
abbrev pub LayerLaw : Type 0
LayerLaw =
    (rows : Rows) (step : Step) (r : ℕ) (h : Held) (s : State) → AreFit rows → step.margin < 65536 → r < rows.shape.q → IsShown rows h s
    → IsShown rows (layer rows step h r) (plain.layer (code_of rows) rows.shape.q step s r)
