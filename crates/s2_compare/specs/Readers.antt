-- What a reader of words holds (own).
use Rattle.std.specs.Prelude.{◌≡◌, ◌⊎◌, ℕ, ◌+◌, ◌*◌, ◌/◌, ◌<◌, ⊤, List, Bool, length, Option, Result, Ok, Err}
use Rattle.std.specs.Io.KnownBytes.{IsAtEnd}
use Rattle.s2_mode.specs.Shape.{Shape, code_bits}
use Rattle.s2_mode.specs.Mode.{shape_in, HasCodeSizes}
use Rattle.s2_rows.specs.Rows.{Rows}
use Rattle.s2_matrix.specs.Code.{code_of}
use Rattle.s2_io.specs.declared.fault.Fault.{Fault}
use Rattle.s2_io.specs.declared.fault.Fault.TheVariants as faults
use Rattle.s2_evidence.specs.Pieces.{Took}
use Rattle.s2_compare.specs.declared.form.Form.{Form}
use Rattle.s2_compare.specs.declared.form.Form.TheVariants as forms
use Rattle.s2_compare.specs.declared.word_reader.Kind.{Kind}
use Rattle.s2_compare.specs.declared.word_reader.Kind.TheVariants as kinds
use Rattle.s2_compare.specs.Comparing.{given}
use Rattle.s2_compare.specs.Devices.{cut_fault, record_size}

-- the form of a kind, for a code of this shape
abbrev pub form_by : Shape → Kind → Form
form_by shape (kinds.Bytes wide) = forms.Bytes shape
form_by shape kinds.Digits = forms.Digits shape
form_by shape (kinds.Bbframes mode) = forms.Bbframes mode

-- there is room for all bits of a record's bytes; the code is that of the encoder's mode
abbrev pub FitsKind : Rows → Kind → Type 0
FitsKind rows (kinds.Bytes wide) = length wide ≡ 8 * ((code_bits rows.shape + 7) / 8)
FitsKind rows kinds.Digits = ⊤
FitsKind rows (kinds.Bbframes mode) = (rows.shape ≡ shape_in mode) × HasCodeSizes mode

-- a reader's value: its form, the address rows and the last word
pub record Reading : Type 0 where
  pub form : Form
  pub rows : Rows
  pub word : List Bool

-- its buffers have room for a record and a word
pub record FitsReader (rows : Rows) (kind : Kind) (bytes : List ℕ) (word : List Bool) : Type 0 where
  pub kind_fits : FitsKind rows kind
  pub bytes_fit : length bytes ≡ record_size (form_by rows.shape kind)
  pub word_fits : length word ≡ (code_of rows).bits

-- a word that was read, or nothing, or a fault
abbrev pub said : Result Bool Fault → List Bool → Result (Option (List Bool)) Fault
said (Ok delivered) word = Ok (given delivered word)
said (Err fault) word = Err fault

-- fewer bytes than a record has are left, or a read failed
abbrev pub IsCutOff : ℕ → Option (List ℕ) → Option (List ℕ) → Fault → Type 0
IsCutOff size before after fault =
    Took before after (λ bytes. (fault ≡ faults.Read) ⊎ ((length bytes < size) × IsAtEnd after × (fault ≡ cut_fault bytes)))
