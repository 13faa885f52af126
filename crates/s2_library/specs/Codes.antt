-- Codes of row files (own).
use Rattle.std.specs.Prelude.{◌≡◌, ℕ, List, false, Result, Ok, Err, Option, Some, None}
use Rattle.s2_mode.specs.Mode.{Mode, shape_in}
use Rattle.s2_mode.specs.Shape.{Shape, code_bits, information_bits}
use Rattle.s2_rows.specs.Rows.{Rows}
use Rattle.s2_rows.specs.RowFiles.{rows_of_text}
use Rattle.s2_table.specs.Sums.{standard_sum}
use Rattle.s2_table.specs.Rising.{HasSum}
use Rattle.s2_library.specs.Fields.{flag_of}
use Rattle.s2_library.specs.declared.code.Code.{Code}
use Rattle.s2_library.specs.declared.refusal.Refusal.{Refusal}
use Rattle.s2_library.specs.declared.refusal.Refusal.TheVariants.{OtherKind}
use Rattle.s2_library.specs.declared.slot.Slot.{Slot}
use Rattle.s2_library.specs.declared.slot.Slot.TheVariants as slots

-- the rows of a text for a shape
abbrev pub AreRowsOf : List ℕ → Shape → Rows → Type 0
AreRowsOf text shape rows = (rows_of_text text shape ≡ Ok rows.rows) × (rows.shape ≡ shape)

-- a code of the rows of a text for a mode, and whether these are the standard's
abbrev pub IsCodeOf : List ℕ → Mode → Code → Type 0
IsCodeOf text mode code = AreRowsOf text (shape_in mode) code.matrix.now × HasSum code.matrix.now (standard_sum mode) code.is_standard

-- a slot with such a code
abbrev pub HasCodeOf : List ℕ → Mode → Slot → Type 0
HasCodeOf text mode (slots.Code code) = IsCodeOf text mode code
HasCodeOf text mode slot = ⊥

-- a slot with a code of the rows of a text for a shape; these count as not the standard's
abbrev pub HasCodeOfShape : List ℕ → Shape → Slot → Type 0
HasCodeOfShape text shape (slots.Code code) = AreRowsOf text shape code.matrix.now × (code.is_standard ≡ false)
HasCodeOfShape text shape slot = ⊥

-- the code of a slot
abbrev pub code_in : Slot → Option Code
code_in (slots.Code code) = Some code
code_in slot = None

-- the numbers n and k of a slot's code are given, and whether its rows are the standard's
abbrev pub GivesFacts : Option Code → (n m k l s t : ℕ) → Result (Unit {0}) Refusal → Type 0
GivesFacts None n m k l s t result = (result ≡ Err OtherKind) × (m ≡ n) × (l ≡ k) × (t ≡ s)
GivesFacts (Some code) n m k l s t result =
    (result ≡ Ok tt) × (m ≡ code_bits code.matrix.now.shape) × (l ≡ information_bits code.matrix.now.shape) × (t ≡ flag_of code.is_standard)
