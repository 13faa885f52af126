-- The words of a device in a file, one record for each frame (own).
use Rattle.std.specs.Prelude.{◌≡◌, ◌≢◌, ◌⊎◌, ℕ, ◌+◌, ◌*◌, ◌/◌, ◌<◌, List, [], ◌∷◌, ◌++◌, Bool, codes, length, map, take, replicate, if◌then◌else◌, Option, Some, None, Result, Ok, Err}
use Rattle.std.specs.Io.KnownBytes.{IsAtEnd}
use Rattle.s2_mode.specs.Shape.{Shape, code_bits}
use Rattle.s2_mode.specs.Mode.{Mode, kbch_of, shape_in}
use Rattle.s2_bits.specs.Bits.{bits_of_bytes}
use Rattle.s2_rows.specs.Rows.{Rows}
use Rattle.s2_matrix.specs.Code.{code_of}
use Rattle.s2_scramble.specs.Baseband.{scrambled}
use Rattle.s2_bch.specs.Codes.{IsBchWordOf}
use Rattle.s2_ldpc.specs.Encoding.{IsCodewordOf}
use Rattle.s2_io.specs.declared.fault.Fault.{Fault}
use Rattle.s2_io.specs.declared.fault.Fault.TheVariants as faults
use Rattle.s2_evidence.specs.Pieces.{Took}
use Rattle.s2_compare.specs.declared.form.Form.{Form}
use Rattle.s2_compare.specs.declared.form.Form.TheVariants as forms

-- the shape of the code that the words are for
abbrev pub shape_for : Form → Shape
shape_for (forms.Bytes shape) = shape
shape_for (forms.Digits shape) = shape
shape_for (forms.Bbframes mode) = shape_in mode

-- the bytes of a record
abbrev pub record_size : Form → ℕ
record_size (forms.Bytes shape) = (code_bits shape + 7) / 8
record_size (forms.Digits shape) = code_bits shape + 1
record_size (forms.Bbframes mode) = kbch_of mode / 8

-- a bit as a digit, 0 or 1
abbrev pub digit : Bool → ℕ
digit bit = if bit then 49 else 48

-- bits as a line of digits, with LF
abbrev pub digits_line : List Bool → List ℕ
digits_line word = map digit word ++ 10 ∷ []

-- the codeword of a BBFRAME: it is scrambled, and begins the codeword of its BCH word (EN 302 307-1, 5.2 and 5.3)
pub record IsCodewordOfFrame (mode : Mode) (rows : Rows) (bytes : List ℕ) (codeword : List Bool) : Type 0 where
  pub bch_word : List Bool
  pub is_bch_word : IsBchWordOf mode (scrambled (bits_of_bytes bytes)) bch_word
  pub is_codeword : IsCodewordOf (code_of rows) bch_word codeword

-- the BBFRAME of a device that delivered nothing
abbrev pub nothing : Mode → List ℕ
nothing mode = replicate (kbch_of mode / 8) 0

-- what a record says that the device delivered: a word, or nothing
abbrev pub Says : Form → Rows → List ℕ → Option (List Bool) → Type 0
Says (forms.Bytes shape) rows bytes (Some word) = word ≡ take (code_bits shape) (bits_of_bytes bytes)
Says (forms.Bytes shape) rows bytes None = ⊥
Says (forms.Digits shape) rows bytes (Some word) = bytes ≡ digits_line word
Says (forms.Digits shape) rows bytes None = ⊥
Says (forms.Bbframes mode) rows bytes (Some word) = (bytes ≢ nothing mode) × IsCodewordOfFrame mode rows bytes word
Says (forms.Bbframes mode) rows bytes None = bytes ≡ nothing mode

-- ---- reading

-- the fault of the last bytes, fewer than a record has
abbrev pub cut_fault : List ℕ → Fault
cut_fault [] = faults.Refused (codes "words: " ++ codes "fewer than certificates")
cut_fault (byte ∷ bytes) = faults.Refused (codes "words: " ++ codes "cut")

-- the fault of a record that is no line of digits
abbrev pub digits_fault : Fault
digits_fault = faults.Refused (codes "words: " ++ codes "not a line of n digits 0 and 1")

-- the fault of a record after the last certificate
abbrev pub more_fault : Fault
more_fault = faults.Refused (codes "words: " ++ codes "more than certificates")

-- a record is refused: the file ends before it or in it, or it is no line of digits
abbrev pub IsRefusedRecord : Form → Rows → List ℕ → Option (List ℕ) → Fault → Type 0
IsRefusedRecord form rows bytes after fault =
    ((length bytes < record_size form) × IsAtEnd after × (fault ≡ cut_fault bytes))
    ⊎ ((length bytes ≡ record_size form) × ((device : Option (List Bool)) → Says form rows bytes device → ⊥) × (fault ≡ digits_fault))

-- the next record was read, which says this; or it is refused, or a read failed
abbrev pub TakesWord : Form → Rows → Option (List ℕ) → Option (List ℕ) → Result (Option (List Bool)) Fault → Type 0
TakesWord form rows before after (Ok device) = Took before after (λ bytes. (length bytes ≡ record_size form) × Says form rows bytes device)
TakesWord form rows before after (Err fault) = Took before after (λ bytes. (fault ≡ faults.Read) ⊎ IsRefusedRecord form rows bytes after fault)

-- there is a record after the last one, or a read failed
abbrev pub HasMoreWords : Option (List ℕ) → Option (List ℕ) → Fault → Type 0
HasMoreWords before after fault = Took before after (λ bytes. (fault ≡ faults.Read) ⊎ ((bytes ≢ []) × (fault ≡ more_fault)))
