-- What a comparer holds, and its answer for the next certificate (own).
use Rattle.std.specs.Prelude.{◌≡◌, ◌≢◌, ◌⊎◌, ℕ, List, Bool, length, Option, Result, Ok, Err}
use Rattle.s2_rows.specs.Rows.{Rows}
use Rattle.s2_matrix.specs.Code.{code_of}
use Rattle.s2_certfile.specs.File.{File}
use Rattle.s2_io.specs.declared.fault.Fault.{Fault}
use Rattle.s2_evidence.specs.Pieces.{max_piece}
use Rattle.s2_compare.specs.declared.compared.Compared.{Compared}
use Rattle.s2_compare.specs.declared.form.Form.{Form}
use Rattle.s2_compare.specs.Comparing.{Compares}
use Rattle.s2_compare.specs.Devices.{TakesWord}

-- a comparer's value: the form of the device's words, and the address rows
pub record Comparing : Type 0 where
  pub form : Form
  pub rows : Rows

-- its buffers have room for any certificate, and a bit for each check
pub record FitsComparer (rows : Rows) (room : List ℕ) (odd : List Bool) : Type 0 where
  pub room_fits : length room ≡ max_piece
  pub odd_fits : length odd ≡ (code_of rows).checks

-- what the device delivered for a certificate, and the answer
pub record AnswersRead (form : Form) (rows : Rows) (file : File) (before after : Option (List ℕ)) (answer : Compared) : Type 0 where
  pub device : Option (List Bool)
  pub word : TakesWord form rows before after (Ok device)
  pub compared : Compares rows file device answer

-- the next word was read, and compared; or it is refused, or a read failed
abbrev pub AnswersNext : Form → Rows → File → Option (List ℕ) → Option (List ℕ) → Result Compared Fault → Type 0
AnswersNext form rows file before after (Ok answer) = AnswersRead form rows file before after answer
AnswersNext form rows file before after (Err fault) = TakesWord form rows before after (Err fault)
