-- Value files of hard decisions (own).
use Rattle.std.specs.Prelude.{ℕ, ℤ, pos, neg_ℤ, ◌-◌, ◌==◌, Bool, true, false, List, [], ◌∷◌, Result, Ok, Err, if◌then◌else◌}
use Rattle.s2_rows.specs.Readings.{ok_cons}
use Rattle.s2_rows.specs.Text.{lines_of}
use Rattle.s2_rows.specs.Values.{tokens_from, values_of_text}
use Rattle.s2_rows.specs.declared.values.ValueFault.{ValueFault}
use Rattle.s2_rows.specs.declared.values.ValueFault.TheVariants as faults

-- a decided bit as a soft value: 1 for the token 0, -1 for the token 1; any other token of a line is out of range
abbrev pub bit_of : ℕ → List ℕ → Result ℤ ValueFault
bit_of line [] = Err (faults.OutOfRange line)
bit_of line (b ∷ []) = if b == 48 then Ok (pos 1) else if b == 49 then Ok (neg_ℤ (pos 1)) else Err (faults.OutOfRange line)
bit_of line (b ∷ c ∷ bytes) = Err (faults.OutOfRange line)

-- n more decided bits, from these tokens
unfoldable pub bits_of : ℕ → List (ℕ × List ℕ) → Result (List ℤ) ValueFault
bits_of left [] = if left == 0 then Ok [] else Err faults.TooFew
bits_of left (token ∷ tokens) = if left == 0 then Err faults.TooMany else ok_cons (bit_of token.0 token.1) (bits_of (left - 1) tokens)

-- the decided bits of a text as soft values, or the first fault in reading order
abbrev pub bits_of_text : List ℕ → ℕ → Result (List ℤ) ValueFault
bits_of_text text count = bits_of count (tokens_from 1 (lines_of text))

-- the values of a text, which has decided bits or soft values
abbrev pub text_by : (hard : Bool) → List ℕ → ℕ → Result (List ℤ) ValueFault
text_by true text count = bits_of_text text count
text_by false text count = values_of_text text count
