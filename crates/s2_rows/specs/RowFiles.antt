-- What a row file says, or its first fault (own).
use Rattle.std.specs.Prelude.{◌≡◌, ℕ, ◌+◌, ◌-◌, ◌==◌, nat_lt, List, [], ◌∷◌, ◌++◌, length, Option, Some, None, Result, Ok, Err, ⊤, if◌then◌else◌}
use Rattle.std.specs.List.{list_any}
use Rattle.s2_mode.specs.Shape.{Shape, check_count}
use Rattle.s2_rows.specs.Limits.{max_addresses}
use Rattle.s2_rows.specs.declared.row_file.RowFault.{RowFault}
use Rattle.s2_rows.specs.declared.row_file.RowFault.TheVariants as faults
use Rattle.s2_rows.specs.Numbers.{natural_of}
use Rattle.s2_rows.specs.Readings.{ok_cons}
use Rattle.s2_rows.specs.Text.{lines_of, tokens_of, is_ignored}

-- an address, unless it is none or too large
abbrev pub address_of : ℕ → ℕ → Option ℕ → Result ℕ RowFault
address_of checks line None = Err (faults.NotNumber line)
address_of checks line (Some x) = if nat_lt x checks then Ok x else Err (faults.AddressTooLarge line)

-- a row with one address more, unless it has that already
abbrev pub with_address : ℕ → List ℕ → Result ℕ RowFault → Result (List ℕ) RowFault
with_address line row (Err e) = Err e
with_address line row (Ok x) = if list_any (λ y. y == x) row then Err (faults.Repeated line) else Ok (row ++ x ∷ [])

-- a row with the address of one token more, unless it is full
abbrev pub with_token : ℕ → ℕ → List ℕ → List ℕ → Result (List ℕ) RowFault
with_token checks line row token =
    if nat_lt (length row) max_addresses then with_address line row (address_of checks line (natural_of token)) else Err (faults.RowTooLong line)

-- the row that goes on with these tokens
unfoldable pub row_from : ℕ → ℕ → Result (List ℕ) RowFault → List (List ℕ) → Result (List ℕ) RowFault
row_from checks line (Err e) tokens = Err e
row_from checks line (Ok row) [] = Ok row
row_from checks line (Ok row) (token ∷ tokens) = row_from checks line (with_token checks line row token) tokens

-- the row of a line
abbrev pub row_in : ℕ → ℕ → List (List ℕ) → Result (List ℕ) RowFault
row_in checks line tokens = row_from checks line (Ok []) tokens

-- n more rows, from these lines
unfoldable pub rows_of : ℕ → ℕ → ℕ → List (List ℕ) → Result (List (List ℕ)) RowFault
rows_of checks left number [] = if left == 0 then Ok [] else Err faults.TooFewRows
rows_of checks left number (line ∷ lines) =
    if is_ignored (tokens_of line) then rows_of checks left (number + 1) lines
    else (if left == 0 then Err faults.TooManyRows
    else ok_cons (row_in checks number (tokens_of line)) (rows_of checks (left - 1) (number + 1) lines))

-- The rows of a text for a shape, or the first fault in reading order. Each line that is not ignored is the row of the
-- next group. A 25th token is a row too long. A token has to be a number, then below n - k, then new in its row. One
-- line more than there are groups is too many, before its tokens are read; the end with a group left is too few
abbrev pub rows_of_text : List ℕ → Shape → Result (List (List ℕ)) RowFault
rows_of_text text shape = rows_of (check_count shape) shape.groups 1 (lines_of text)

-- The result is what the text says. Memory is allocated before the text is read, so nothing is claimed of the text if
-- there is none
abbrev pub RowsAnswer : {V : Type 0} → (V → List (List ℕ)) → Result V RowFault → Result (List (List ℕ)) RowFault → Type 0
RowsAnswer view (Ok v) said = said ≡ Ok (view v)
RowsAnswer view (Err faults.NoMemory) said = ⊤
RowsAnswer view (Err e) said = said ≡ Err e
