-- The definitions on the texts of a small code: group 4, two groups, q 3, rows 0 4 8 and 0 1 2.
use Rattle.std.proofs.Common.{◌≡◌, ℕ, List, [], ◌∷◌, Ok, Err, inl, inr, pos, negsuc, codes, refl, arith}
use Rattle.std.specs.Fmt.{digits}
use Rattle.s2_mode.specs.Shape.{Shape, shape_of}
use Rattle.s2_rows.specs.RowFiles.{rows_of, row_from, rows_of_text}
use Rattle.s2_rows.specs.Values.{values_of, values_of_text}
use Rattle.s2_rows.specs.ValueTexts.{plain, minus, IsLineWith, AreLinesWith}
use Rattle.s2_rows.specs.Numbers.{digits_from}
use Rattle.s2_rows.specs.Text.{pieces_of, lines_of}
use Rattle.s2_rows.specs.RowTexts.{row_text, rows_text}
use Rattle.s2_rows.specs.MadeRows.{free_from}
use Rattle.s2_rows.specs.declared.row_file.RowFault.TheVariants as faults
use Rattle.s2_rows.specs.declared.values.ValueFault.TheVariants as value_faults

toy : Shape
toy = shape_of 4 2 3

abbrev toy_rows : List (List ℕ)
toy_rows = (0 ∷ 4 ∷ 8 ∷ []) ∷ (0 ∷ 1 ∷ 2 ∷ []) ∷ []

-- ---- row files

rows_read : rows_of_text (codes "0 4 8\n0 1 2\n") toy ≡ Ok toy_rows
unfolding toy rows_of row_from digits_from pieces_of
rows_read = refl

rows_read_laid_out : rows_of_text (codes "# x\n\n\t0\t4  8\r\n \n0 01 0002\r\n\n# y") toy ≡ Ok toy_rows
unfolding toy rows_of row_from digits_from pieces_of
rows_read_laid_out = refl

rows_refused_none : rows_of_text [] toy ≡ Err faults.TooFewRows
unfolding toy rows_of row_from digits_from pieces_of
rows_refused_none = refl

rows_refused_large : rows_of_text (codes "0 4 12\n0 1 2\n") toy ≡ Err (faults.AddressTooLarge 1)
unfolding toy rows_of row_from digits_from pieces_of
rows_refused_large = refl

rows_refused_repeated : rows_of_text (codes "0 0\n0 1 2\n") toy ≡ Err (faults.Repeated 1)
unfolding toy rows_of row_from digits_from pieces_of
rows_refused_repeated = refl

rows_refused_letter : rows_of_text (codes "# x\n0 4 8\n0 x\n") toy ≡ Err (faults.NotNumber 3)
unfolding toy rows_of row_from digits_from pieces_of
rows_refused_letter = refl

rows_refused_third : rows_of_text (codes "0 4 8\n0 1 2\n3\n") toy ≡ Err faults.TooManyRows
unfolding toy rows_of row_from digits_from pieces_of
rows_refused_third = refl

rows_refused_long : rows_of_text (codes "0 1 2 3 4 5 6 7 8 9 10 11 12 13 14 15 16 17 18 19 20 21 22 23 24") (shape_of 1 1 30) ≡ Err (faults.RowTooLong 1)
unfolding rows_of row_from digits_from pieces_of
rows_refused_long = refl

rows_written : rows_text toy_rows ≡ codes "0 4 8\n0 1 2\n"
unfolding row_text digits
rows_written = refl

-- an address that is in its row moves up, and wraps at n - k
address_moves : free_from 12 (11 ∷ 5 ∷ 0 ∷ []) 3 11 ≡ 1
unfolding free_from
address_moves = refl

-- ---- value files

values_read : values_of_text (codes "-5 7 7 7 7 7 7 7\n-5 -5 -5 -5 7 7 7 7 -5 -5 -5 -5\n") 20 ≡ Ok (negsuc 4 ∷ pos 7 ∷ pos 7 ∷ pos 7 ∷ pos 7 ∷ pos 7 ∷ pos 7 ∷ pos 7 ∷ negsuc 4 ∷ negsuc 4 ∷ negsuc 4 ∷ negsuc 4 ∷ pos 7 ∷ pos 7 ∷ pos 7 ∷ pos 7 ∷ negsuc 4 ∷ negsuc 4 ∷ negsuc 4 ∷ negsuc 4 ∷ [])
unfolding values_of digits_from pieces_of
values_read = refl

values_read_laid_out : values_of_text (codes "# x\n64 -511\t007\r\n\n511") 4 ≡ Ok (pos 64 ∷ negsuc 510 ∷ pos 7 ∷ pos 511 ∷ [])
unfolding values_of digits_from pieces_of
values_read_laid_out = refl

-- a comment, two numbers, an empty line and one more number
laid_out_values : AreLinesWith (lines_of (codes "# x\n-5 07\n\n 8")) (negsuc 4 ∷ pos 7 ∷ pos 8 ∷ [])
unfolding digits pieces_of
laid_out_values = inl (inr ([], codes " x", refl, tt), inr (negsuc 4 ∷ pos 7 ∷ [], pos 8 ∷ [], refl, two, inl (inl tt, inr (pos 8 ∷ [], [], refl, one, refl))))
  where
    two : IsLineWith (codes "-5 07") (negsuc 4 ∷ pos 7 ∷ [])
    two = ([], codes "-5", codes " 07", refl, tt, minus 0 5 (omega arith) refl refl, refl, (codes " ", codes "07", [], refl, (refl, tt), plain 1 7 (omega arith) refl refl, tt, tt))

    one : IsLineWith (codes " 8") (pos 8 ∷ [])
    one = (codes " ", codes "8", [], refl, (refl, tt), plain 0 8 (omega arith) refl refl, tt, tt)

values_refused_large : values_of_text (codes "1\n512") 2 ≡ Err (value_faults.OutOfRange 2)
unfolding values_of digits_from pieces_of
values_refused_large = refl

values_refused_letter : values_of_text (codes "x 2") 2 ≡ Err (value_faults.NotNumber 1)
unfolding values_of digits_from pieces_of
values_refused_letter = refl

values_refused_few : values_of_text (codes "1") 2 ≡ Err value_faults.TooFew
unfolding values_of digits_from pieces_of
values_refused_few = refl

values_refused_many : values_of_text (codes "1 2 3") 2 ≡ Err value_faults.TooMany
unfolding values_of digits_from pieces_of
values_refused_many = refl
