-- The text of rows is read as the same rows.
use Rattle.std.proofs.Common.{◌≡◌, ◌≢◌, ℕ, suc, ◌+◌, ◌-◌, ◌^◌, ◌<◌, ◌≤◌, ◌==◌, nat_lt, Bool, true, false, List, [], ◌∷◌, ◌++◌, map, length, get_or, Some, Ok, refl, sym, ap, ◌∙◌, subst, arith, append_assoc, append-nil, length-append, decimal}
use Rattle.std.specs.List.{list_any, All, AllPairs}
use Rattle.std.proofs.lemmas.Bool.{cond-true, cond-false, lt-ltb, ne_eqb}
use Rattle.std.proofs.lemmas.List.Folds.{list_any_none}
use Rattle.std.proofs.Math.ListN.{get_or-append}
use Rattle.std.proofs.Math.Seq.{get_or-append_seam}
use Rattle.s2_rows.proofs.Accepted.{IsRow}
use Rattle.s2_mode.specs.Shape.{Shape, IsShape, check_count}
use Rattle.s2_rows.proofs.Decimals.{Says, decimal_says, natural_of_decimal, Lacks, no_space, no_line_feed}
use Rattle.s2_rows.proofs.RowLines.{one_row}
use Rattle.s2_rows.proofs.Pieces.{token_first}
use Rattle.s2_rows.specs.Numbers.{natural_of}
use Rattle.s2_rows.specs.Readings.{ok_cons}
use Rattle.s2_rows.specs.Rows.{AreAddresses, row_of}
use Rattle.s2_rows.specs.RowFiles.{address_of, with_address, with_token, row_from, row_in, rows_of}
use Rattle.s2_rows.specs.RowTexts.{row_text, rows_text, ReadBackLaw}
use Rattle.s2_rows.specs.Text.{is_space, is_line_feed, in_front, pieces_of, tokens_of, lines_of, is_ignored}

-- a piece ends at its separator
pub piece_is_cut : (p : ℕ → Bool) (piece : List ℕ) (s : ℕ) (rest : List ℕ) → Lacks p piece → p s ≡ true → pieces_of p (piece ++ s ∷ rest) ≡ piece ∷ pieces_of p rest
unfolding pieces_of
piece_is_cut p [] s rest lacks h = cond-true _ _ _ h
piece_is_cut p (b ∷ piece) s rest lacks h = cond-false _ _ _ lacks.0 ∙ ap (in_front b) (piece_is_cut p piece s rest lacks.1 h)

-- the bytes of a row before its LF
abbrev row_body : List ℕ → List ℕ
row_body [] = []
row_body (x ∷ []) = decimal x
row_body (x ∷ y ∷ row) = decimal x ++ 32 ∷ row_body (y ∷ row)

body_then_feed : (row : List ℕ) → 1 ≤ length row → row_text row ≡ row_body row ++ 10 ∷ []
unfolding row_text
body_then_feed [] h = absurd (omega arith)
body_then_feed (x ∷ []) h = refl
body_then_feed (x ∷ y ∷ row) h = ap (λ t. decimal x ++ 32 ∷ t) (body_then_feed (y ∷ row) (omega arith)) ∙ sym (append_assoc (decimal x) (32 ∷ row_body (y ∷ row)) (10 ∷ []))

lacks_append : (p : ℕ → Bool) (xs ys : List ℕ) → Lacks p xs → Lacks p ys → Lacks p (xs ++ ys)
lacks_append p [] ys a b = b
lacks_append p (x ∷ xs) ys a b = (a.0, lacks_append p xs ys a.1 b)

pub few_checks : (s : Shape) → IsShape s → check_count s ≤ 64800
few_checks s is = omega (arith, is.few)

-- numbers that a file can hold
abbrev pub Few : List ℕ → Type 0
Few [] = Unit
Few (x ∷ row) = (x < 2 ^ 64) × Few row

body_in_line : (row : List ℕ) → Few row → Lacks is_line_feed (row_body row)
body_in_line [] few = tt
body_in_line (x ∷ []) few = no_line_feed (decimal x) (decimal_says x few.0).digits
body_in_line (x ∷ y ∷ row) few = lacks_append is_line_feed (decimal x) (32 ∷ row_body (y ∷ row)) (no_line_feed (decimal x) (decimal_says x few.0).digits) (refl, body_in_line (y ∷ row) few.1)

pub line_is_cut : (row rest : List ℕ) → 1 ≤ length row → Few row → lines_of (row_text row ++ rest) ≡ row_body row ∷ lines_of rest
line_is_cut row rest some few =
    ap (λ t. lines_of (t ++ rest)) (body_then_feed row some) ∙ ap lines_of (append_assoc (row_body row) (10 ∷ []) rest) ∙ piece_is_cut is_line_feed (row_body row) 10 rest (body_in_line row few) refl

-- a piece with no separator is the last
pub piece_is_last : (p : ℕ → Bool) (b : ℕ) (piece : List ℕ) → Lacks p (b ∷ piece) → pieces_of p (b ∷ piece) ≡ (b ∷ piece) ∷ []
unfolding pieces_of
piece_is_last p b [] lacks = cond-false _ _ _ lacks.0
piece_is_last p b (c ∷ piece) lacks = cond-false _ _ _ lacks.0 ∙ ap (in_front b) (piece_is_last p c piece lacks.1)

pub one_token : (ds : List ℕ) → 0 < length ds → Lacks is_space ds → tokens_of ds ≡ ds ∷ []
unfolding pieces_of
one_token [] h lacks = absurd (omega arith)
one_token (d ∷ ds) h lacks = token_first (d ∷ ds) (d ∷ ds) [] (piece_is_last is_space d ds lacks) (omega arith)

tokens_of_body : (row : List ℕ) → Few row → tokens_of (row_body row) ≡ map decimal row
unfolding pieces_of
tokens_of_body [] few = refl
tokens_of_body (x ∷ []) few = let s = decimal_says x few.0 in one_token (decimal x) s.some (no_space (decimal x) s.digits)
tokens_of_body (x ∷ y ∷ row) few =
    let s = decimal_says x few.0 in
    token_first (decimal x ++ 32 ∷ row_body (y ∷ row)) (decimal x) (row_body (y ∷ row)) (piece_is_cut is_space (decimal x) 32 (row_body (y ∷ row)) (no_space (decimal x) s.digits) refl) s.some ∙ ap (λ tokens. decimal x ∷ tokens) (tokens_of_body (y ∷ row) few.1)

pub begins_with_digit : (n : ℕ) (ds : List ℕ) (tokens : List (List ℕ)) → Says n ds → is_ignored (ds ∷ tokens) ≡ false
begins_with_digit n [] tokens s = absurd (omega (arith, s.some))
begins_with_digit n (d ∷ ds) tokens s = ne_eqb d 35 (λ e. omega (arith, s.digits.0))

is_spoken : (row : List ℕ) → 1 ≤ length row → Few row → is_ignored (tokens_of (row_body row)) ≡ false
is_spoken [] some few = absurd (omega arith)
is_spoken (x ∷ row) some few = ap is_ignored (tokens_of_body (x ∷ row) few) ∙ begins_with_digit x (decimal x) (map decimal row) (decimal_says x few.0)

-- the last of some addresses is none of those before it
not_before : (front : List ℕ) (x : ℕ) (row : List ℕ) → AllPairs (λ x y. x ≢ y) (front ++ x ∷ row) → list_any (λ y. y == x) front ≡ false
not_before front x row apart = list_any_none (λ y. y == x) front (λ i d h.
    let longer : length (front ++ x ∷ row) ≡ length front + (length row + 1) = length-append front (x ∷ row) ∙ omega arith in
    let differ = apart i (length front) d h (omega arith) in
    ne_eqb _ _ (λ e. differ (get_or-append front (x ∷ row) d i h ∙ e ∙ sym (get_or-append_seam front x row d))))

is_below : (checks : ℕ) (front : List ℕ) (x : ℕ) (row : List ℕ) → All (λ y. y < checks) (front ++ x ∷ row) → x < checks
is_below checks front x row below =
    let longer : length (front ++ x ∷ row) ≡ length front + (length row + 1) = length-append front (x ∷ row) ∙ omega arith in
    let P : ℕ → Type 0 = λ y. y < checks in
    subst P (get_or-append_seam front x row 0) (below (length front) 0 (omega arith))

pub adds_said : (checks n : ℕ) (front : List ℕ) (x : ℕ) (row token : List ℕ) → natural_of token ≡ Some x → AreAddresses checks (front ++ x ∷ row) → length (front ++ x ∷ row) ≤ 24
    → with_token checks n front token ≡ Ok (front ++ x ∷ [])
adds_said checks n front x row token says are short =
    let longer : length (front ++ x ∷ row) ≡ length front + (length row + 1) = length-append front (x ∷ row) ∙ omega arith in
    let room : nat_lt (length front) 24 ≡ true = lt-ltb _ _ (omega arith) in
    let below : address_of checks n (natural_of token) ≡ Ok x = ap (address_of checks n) says ∙ cond-true _ _ _ (lt-ltb _ _ (is_below checks front x row are.below)) in
    cond-true _ _ _ room ∙ ap (with_address n front) below ∙ cond-false _ _ _ (not_before front x row are.apart)

adds_all : (checks n : ℕ) (row front : List ℕ) → Few row → AreAddresses checks (front ++ row) → length (front ++ row) ≤ 24 → row_from checks n (Ok front) (map decimal row) ≡ Ok (front ++ row)
unfolding row_from
adds_all checks n [] front few are short = ap Ok (sym (append-nil front))
adds_all checks n (x ∷ row) front few are short =
    let same : (front ++ x ∷ []) ++ row ≡ front ++ x ∷ row = append_assoc front (x ∷ []) row in
    let P : List ℕ → Type 0 = AreAddresses checks in
    let Q : List ℕ → Type 0 = λ r. length r ≤ 24 in
    ap (λ r. row_from checks n r (map decimal row)) (adds_said checks n front x row (decimal x) (natural_of_decimal x few.0) are short) ∙ adds_all checks n row (front ++ x ∷ []) few.1 (subst P (sym same) are) (subst Q (sym same) short) ∙ ap Ok same

pub row_is_read : (checks n : ℕ) (row : List ℕ) → Few row → AreAddresses checks row → length row ≤ 24 → row_in checks n (tokens_of (row_body row)) ≡ Ok row
row_is_read checks n row few are short = ap (row_from checks n (Ok [])) (tokens_of_body row few) ∙ adds_all checks n row [] few are short

pub are_few : (checks : ℕ) (row : List ℕ) → checks ≤ 64800 → All (λ y. y < checks) row → Few row
are_few checks [] h below = tt
are_few checks (x ∷ row) h below =
    let here : x < checks = below 0 0 (omega arith) in
    (omega arith, are_few checks row h (λ i d l. below (suc i) d (omega arith)))

rows_are_read : (checks n : ℕ) (rows : List (List ℕ)) → checks ≤ 64800 → ((g : ℕ) → g < length rows → IsRow checks (get_or rows g [])) → rows_of checks (length rows) n (lines_of (rows_text rows)) ≡ Ok rows
unfolding rows_of pieces_of
rows_are_read checks n [] small each = refl
rows_are_read checks n (row ∷ rows) small each =
    let is : IsRow checks row = each 0 (omega arith) in
    let few = are_few checks row small is.are.below in
    let left : suc (length rows) - 1 ≡ length rows = omega arith in
    let others = rows_are_read checks (n + 1) rows small (λ g h. each (suc g) (omega arith)) in
    let spoken = is_spoken row is.some few in
    ap (rows_of checks (suc (length rows)) n) (line_is_cut row (rows_text rows) is.some few)
    ∙ one_row checks (suc (length rows)) n (row_body row) (lines_of (rows_text rows)) (sym spoken) (omega arith)
    ∙ ap (λ r. ok_cons r (rows_of checks (suc (length rows) - 1) (n + 1) (lines_of (rows_text rows)))) (row_is_read checks n row few is.are is.short)
    ∙ ap (λ k. ok_cons (Ok row) (rows_of checks k (n + 1) (lines_of (rows_text rows)))) left
    ∙ ap (ok_cons (Ok row)) others

pub written_is_read : ReadBackLaw
written_is_read r is =
    let each : (g : ℕ) → g < length r.rows → IsRow (check_count r.shape) (row_of r g) = λ g h.
    let below : g < r.shape.groups = omega (arith, is.long) in
    record { are = is.each g below; some = is.some g below; short = is.short g below } in
    ap (λ n. rows_of (check_count r.shape) n 1 (lines_of (rows_text r.rows))) (sym is.long) ∙ rows_are_read (check_count r.shape) 1 r.rows (few_checks r.shape is.shaped) each
