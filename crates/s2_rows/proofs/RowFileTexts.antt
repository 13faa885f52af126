-- A row file is read as its rows, however it is laid out.
use Rattle.std.proofs.Common.{◌≡◌, ℕ, suc, ◌+◌, ◌-◌, ◌<◌, ◌≤◌, false, List, [], ◌∷◌, ◌++◌, length, get_or, Ok, inl, inr, refl, sym, ap, ◌∙◌, subst, arith, append_assoc, append-nil}
use Rattle.s2_mode.specs.Shape.{check_count}
use Rattle.s2_rows.specs.Rows.{AreAddresses, row_of}
use Rattle.s2_rows.specs.Readings.{ok_cons}
use Rattle.s2_rows.specs.RowFiles.{row_from, rows_of}
use Rattle.s2_rows.specs.Layouts.{digits_of}
use Rattle.s2_rows.specs.RowTexts.{IsLineOf, AreLinesOf, RowFileLaw}
use Rattle.s2_rows.specs.Text.{tokens_of, lines_of, is_ignored}
use Rattle.s2_rows.proofs.Accepted.{IsRow}
use Rattle.s2_rows.proofs.Decimals.{natural_of_says, zeros_say, no_space}
use Rattle.s2_rows.proofs.LineTokens.{tokens_after_gap, no_tokens_alone, silent_passed, token_then}
use Rattle.s2_rows.proofs.RowLines.{passes_over, one_row}
use Rattle.s2_rows.proofs.WrittenRows.{begins_with_digit, Few, are_few, few_checks, adds_said}

-- ---- a row's line

address_then : (line : List ℕ) (x : ℕ) (row : List ℕ) → Few (x ∷ row) → (is : IsLineOf line (x ∷ row)) → tokens_of line ≡ digits_of is.1 x ∷ tokens_of is.2
address_then line x row few (gap, zeros, rest, is, are, ends, more) =
    let s = zeros_say zeros x few.0 in
    ap tokens_of is ∙ tokens_after_gap gap (digits_of zeros x ++ rest) are ∙ token_then (digits_of zeros x) rest s.some (no_space (digits_of zeros x) s.digits) ends

line_adds : (checks n : ℕ) (row front line : List ℕ) → Few row → IsLineOf line row → AreAddresses checks (front ++ row) → length (front ++ row) ≤ 24
    → row_from checks n (Ok front) (tokens_of line) ≡ Ok (front ++ row)
unfolding row_from
line_adds checks n [] front line few is are short = ap (row_from checks n (Ok front)) (no_tokens_alone line is) ∙ ap Ok (sym (append-nil front))
line_adds checks n (x ∷ row) front line few is are short =
    let s = zeros_say is.1 x few.0 in
    let same : (front ++ x ∷ []) ++ row ≡ front ++ x ∷ row = append_assoc front (x ∷ []) row in
    let P : List ℕ → Type 0 = AreAddresses checks in
    let Q : List ℕ → Type 0 = λ r. length r ≤ 24 in
    ap (row_from checks n (Ok front)) (address_then line x row few is)
    ∙ ap (λ r. row_from checks n r (tokens_of is.2)) (adds_said checks n front x row (digits_of is.1 x) (natural_of_says (digits_of is.1 x) x s) are short)
    ∙ line_adds checks n row (front ++ x ∷ []) is.2 few.1 is.6 (subst P (sym same) are) (subst Q (sym same) short) ∙ ap Ok same

line_spoken : (line row : List ℕ) → 1 ≤ length row → Few row → IsLineOf line row → is_ignored (tokens_of line) ≡ false
line_spoken line [] some few is = absurd (omega arith)
line_spoken line (x ∷ row) some few is =
    ap is_ignored (address_then line x row few is) ∙ begins_with_digit x (digits_of is.1 x) (tokens_of is.2) (zeros_say is.1 x few.0)

-- ---- all lines

lines_are_read : (checks n : ℕ) (lines rows : List (List ℕ)) → AreLinesOf lines rows → checks ≤ 64800 → ((g : ℕ) → g < length rows → IsRow checks (get_or rows g []))
    → rows_of checks (length rows) n lines ≡ Ok rows
unfolding rows_of
lines_are_read checks n [] [] are small each = refl
lines_are_read checks n [] (row ∷ rows) are small each = absurd are
lines_are_read checks n (line ∷ lines) [] are small each =
    passes_over checks 0 n line lines (sym (silent_passed line are.0)) ∙ lines_are_read checks (n + 1) lines [] are.1 small each
lines_are_read checks n (line ∷ lines) (row ∷ rows) (inl (silent, more)) small each =
    passes_over checks (suc (length rows)) n line lines (sym (silent_passed line silent)) ∙ lines_are_read checks (n + 1) lines (row ∷ rows) more small each
lines_are_read checks n (line ∷ lines) (row ∷ rows) (inr (is, more)) small each =
    let here : IsRow checks row = each 0 (omega arith) in
    let few = are_few checks row small here.are.below in
    let left : suc (length rows) - 1 ≡ length rows = omega arith in
    let others = lines_are_read checks (n + 1) lines rows more small (λ g h. each (suc g) (omega arith)) in
    one_row checks (suc (length rows)) n line lines (sym (line_spoken line row here.some few is)) (omega arith)
    ∙ ap (λ r. ok_cons r (rows_of checks (suc (length rows) - 1) (n + 1) lines)) (line_adds checks n row [] line few is here.are here.short)
    ∙ ap (λ k. ok_cons (Ok row) (rows_of checks k (n + 1) lines)) left
    ∙ ap (ok_cons (Ok row)) others

pub row_file_is_read : RowFileLaw
row_file_is_read r text is are =
    let each : (g : ℕ) → g < length r.rows → IsRow (check_count r.shape) (row_of r g) = λ g h.
    let below : g < r.shape.groups = omega (arith, is.long) in
    record { are = is.each g below; some = is.some g below; short = is.short g below } in
    ap (λ n. rows_of (check_count r.shape) n 1 (lines_of text)) (sym is.long)
    ∙ lines_are_read (check_count r.shape) 1 (lines_of text) r.rows are (few_checks r.shape is.shaped) each
