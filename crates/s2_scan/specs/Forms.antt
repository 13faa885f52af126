-- The sixteen forms of a recording (own): the byte order, and how the symbols were rotated and conjugated.
use Rattle.std.specs.Prelude.{ℕ, ◌+◌, ◌-◌, ◌*◌, ◌%◌, ◌==◌, Bool, not, nat_lt, nat_le, List, slice_index_or, if◌then◌else◌}
use Rattle.std.specs.List.{range_with_len}
use Rattle.s2_mode.specs.declared.symbols.Symbol.{Symbol}
use Rattle.s2_mode.specs.Symbols.{symbol_of}
use Rattle.s2_plframe.specs.Search.{Decision}

-- a decision after a quarter turn of the symbol, from (I, Q) to (-Q, I)
abbrev pub quarter_turned : Decision → Decision
quarter_turned d = record { odd = not d.even; even = d.odd }

-- the decision on the conjugate symbol, (I, -Q)
abbrev pub conjugated : Decision → Decision
conjugated d = record { odd = not d.even; even = not d.odd }

-- a decision after n quarter turns, 0 to 3
abbrev pub turned_by : ℕ → Decision → Decision
turned_by n d =
    if n == 0
    then d
    else (if n == 1 then quarter_turned d else (if n == 2 then quarter_turned (quarter_turned d) else quarter_turned (quarter_turned (quarter_turned d))))

-- a decision with one of the eight orientations undone: 0 to 3 by that many quarter turns, 4 to 7 by conjugation and then orientation - 4
-- quarter turns
abbrev pub undo : ℕ → Decision → Decision
undo orientation d = if nat_lt orientation 4 then turned_by orientation d else turned_by (orientation - 4) (conjugated d)

-- the sixteen forms: forms 0 to 7 are big endian, 8 to 15 little endian, and form mod 8 is their orientation
unfoldable pub forms : List ℕ
forms = range_with_len 0 16

-- whether a form is little endian
abbrev pub is_little : ℕ → Bool
is_little form = nat_le 8 form

-- the orientation of a form
abbrev pub orientation_of : ℕ → ℕ
orientation_of form = form % 8

-- a byte, and 0 past the end
abbrev pub byte_at : List ℕ → ℕ → ℕ
byte_at bytes k = slice_index_or bytes k 0

-- symbol k of bytes: I, then Q, 16 bits each, little or big endian
unfoldable pub symbol_in : Bool → List ℕ → ℕ → Symbol
symbol_in little bytes k =
    if little
    then symbol_of (byte_at bytes (4 * k + 1)) (byte_at bytes (4 * k)) (byte_at bytes (4 * k + 3)) (byte_at bytes (4 * k + 2))
    else symbol_of (byte_at bytes (4 * k)) (byte_at bytes (4 * k + 1)) (byte_at bytes (4 * k + 2)) (byte_at bytes (4 * k + 3))
