-- The rows of an accepted text are rows of the shape.
use Rattle.std.proofs.Common.{◌≡◌, ◌≢◌, ℕ, zero, suc, ◌+◌, ◌-◌, ◌<◌, ◌≤◌, ◌==◌, Bool, true, false, List, [], ◌∷◌, ◌++◌, length, get_or, Option, Some, None, Result, Ok, Err, refl, sym, ap, ◌∙◌, subst, arith, if◌then◌else◌, length-append}
use Rattle.std.specs.List.{list_any}
use Rattle.std.proofs.lemmas.List.Elements.{All-push}
use Rattle.std.proofs.lemmas.List.Folds.{list_any_at}
use Rattle.std.proofs.lemmas.List.Quantifiers.{all_pairs_push}
use Rattle.std.proofs.lemmas.Bool.{eq-eqb, eqb-true, cond-false, ltb-true}
use Rattle.s2_rows.proofs.RowLines.{passes_over}
use Rattle.s2_mode.specs.Shape.{Shape, IsShape, check_count}
use Rattle.s2_rows.specs.Numbers.{natural_of}
use Rattle.s2_rows.specs.Readings.{ok_cons}
use Rattle.s2_rows.specs.Rows.{AreAddresses, IsRows, rows_value}
use Rattle.s2_rows.specs.RowFiles.{address_of, with_address, with_token, row_from, row_in, rows_of, rows_of_text}
use Rattle.s2_rows.specs.Text.{tokens_of, lines_of, is_ignored}
use Rattle.s2_rows.specs.declared.row_file.RowFault.{RowFault}

-- a test whose other answer is a fault
module _ {T : Type 0} (e : RowFault) (read : Result T RowFault) (v : T) where
  pub other_fails : (b : Bool) → (if b then read else Err e) ≡ Ok v → (b ≡ true) × (read ≡ Ok v)
  other_fails true h = (refl, h)
  other_fails false h = absurd (cc)

  pub this_fails : (b : Bool) → (if b then Err e else read) ≡ Ok v → (b ≡ false) × (read ≡ Ok v)
  this_fails true h = absurd (cc)
  this_fails false h = (refl, h)

address_is_below : (checks line : ℕ) (said : Option ℕ) (x : ℕ) → address_of checks line said ≡ Ok x → x < checks
address_is_below checks line None x h = absurd (cc)
address_is_below checks line (Some y) x h =
    let p = other_fails _ (Ok y) x _ h in
    let same : y ≡ x = cc in
    let below : y < checks = ltb-true _ _ p.0 in
    omega arith

above_zero : (n : ℕ) → (n == 0) ≡ false → 0 < n
above_zero zero h = absurd (cc)
above_zero (suc n) h = omega arith

bool_cases : {A : Type 0} (b : Bool) → (b ≡ true → A) → (b ≡ false → A) → A
bool_cases true when unless = when refl
bool_cases false when unless = unless refl

-- what an address does to its row
pub record IsAdded (checks : ℕ) (row next : List ℕ) : Type 0 where
  pub x : ℕ
  pub below : x < checks
  pub apart : list_any (λ y. y == x) row ≡ false
  pub is : next ≡ row ++ x ∷ []

added : (checks line : ℕ) (row : List ℕ) (said : Option ℕ) (address : Result ℕ RowFault) (next : List ℕ) → address ≡ address_of checks line said → with_address line row address ≡ Ok next → IsAdded checks row next
added checks line row said (Err e) next same h = absurd (cc)
added checks line row said (Ok x) next same h =
    let p = this_fails _ (Ok (row ++ x ∷ [])) next _ h in
    record { x = x; below = address_is_below checks line said x (sym same); apart = p.0; is = cc }

is_apart : (row : List ℕ) (x : ℕ) → list_any (λ y. y == x) row ≡ false → (k : ℕ) (d : ℕ) → k < length row → get_or row k d ≢ x
is_apart row x none k d h same =
    let here : (get_or row k d == x) ≡ true = ap (λ y. y == x) same ∙ eq-eqb x x refl in
    let found : list_any (λ y. y == x) row ≡ true = list_any_at (λ y. y == x) row k d h here in
    cc

pub still_addresses : (checks : ℕ) (row : List ℕ) (x : ℕ) → AreAddresses checks row → x < checks → list_any (λ y. y == x) row ≡ false → AreAddresses checks (row ++ x ∷ [])
still_addresses checks row x are h none = record {
  below = All-push (λ y. y < checks) row x are.below h;
  apart = all_pairs_push (λ x y. x ≢ y) row x are.apart (is_apart row x none);
}

-- a row so far, of so many addresses
pub record IsPart (checks : ℕ) (row : List ℕ) : Type 0 where
  pub are : AreAddresses checks row
  pub short : length row ≤ 24

token_added : (checks line : ℕ) (row token next : List ℕ) → with_token checks line row token ≡ Ok next → IsPart checks row → IsPart checks next × (length next ≡ length row + 1)
token_added checks line row token next h part =
    let p = other_fails _ (with_address line row (address_of checks line (natural_of token))) next _ h in
    let room : length row < 24 = ltb-true _ _ p.0 in
    let a : IsAdded checks row next = added checks line row (natural_of token) _ next refl p.1 in
    let longer : length next ≡ length row + 1 = ap length a.is ∙ length-append row (a.x ∷ []) in
    let P : List ℕ → Type 0 = AreAddresses checks in
    (record { are = subst P (sym a.is) (still_addresses checks row a.x part.are a.below a.apart); short = omega arith }, longer)

starts_well : (checks line : ℕ) (tokens : List (List ℕ)) (so_far : Result (List ℕ) RowFault) (last : List ℕ) → row_from checks line so_far tokens ≡ Ok last → (row : List ℕ) × (so_far ≡ Ok row)
unfolding row_from
starts_well checks line tokens (Err e) last h = absurd (cc)
starts_well checks line tokens (Ok row) last h = (row, refl)

row_grows : (checks line : ℕ) (tokens : List (List ℕ)) (so_far : Result (List ℕ) RowFault) (row last : List ℕ) → so_far ≡ Ok row → row_from checks line so_far tokens ≡ Ok last → IsPart checks row → IsPart checks last × (length last ≡ length row + length tokens)
unfolding row_from
row_grows checks line tokens (Err e) row last same h part = absurd (cc)
row_grows checks line [] (Ok r) row last same h part =
    let is : row ≡ last = cc in
    let P : List ℕ → Type 0 = IsPart checks in
    (subst P is part, ap length (sym is) ∙ omega arith)
row_grows checks line (token ∷ tokens) (Ok r) row last same h part =
    let here : r ≡ row = cc in
    let (next, ok) = starts_well checks line tokens (with_token checks line r token) last h in
    let (longer, one) = token_added checks line row token next (ap (λ r. with_token checks line r token) (sym here) ∙ ok) part in
    let (whole, all) = row_grows checks line tokens (with_token checks line r token) next last ok h longer in
    (whole, omega arith)

-- a row of a line that is not ignored
pub record IsRow (checks : ℕ) (row : List ℕ) : Type 0 where
  pub are : AreAddresses checks row
  pub some : 1 ≤ length row
  pub short : length row ≤ 24

empty : (checks : ℕ) → IsPart checks []
empty checks = record { are = record { below = λ i d h. absurd (omega arith); apart = λ i j d lt h. absurd (omega arith) }; short = omega arith }

some_tokens : (tokens : List (List ℕ)) → is_ignored tokens ≡ false → 1 ≤ length tokens
some_tokens [] h = absurd (cc)
some_tokens (token ∷ tokens) h = omega arith

line_is_row : (checks line : ℕ) (tokens : List (List ℕ)) (row : List ℕ) → is_ignored tokens ≡ false → row_in checks line tokens ≡ Ok row → IsRow checks row
line_is_row checks line tokens row spoken h =
    let (part, long) = row_grows checks line tokens (Ok []) [] row refl h (empty checks) in
    let some = some_tokens tokens spoken in
    record { are = part.are; some = omega arith; short = part.short }

cons_ok : (first : Result (List ℕ) RowFault) (others : Result (List (List ℕ)) RowFault) (all : List (List ℕ)) → ok_cons first others ≡ Ok all → (row : List ℕ) × (rows : List (List ℕ)) × (first ≡ Ok row) × (others ≡ Ok rows) × (row ∷ rows ≡ all)
cons_ok (Err e) others all h = absurd (cc)
cons_ok (Ok row) (Err e) all h = absurd (cc)
cons_ok (Ok row) (Ok rows) all h = (row, rows, refl, refl, cc)

-- so many rows, each of them a row
pub record AreRows (checks count : ℕ) (rows : List (List ℕ)) : Type 0 where
  pub long : length rows ≡ count
  pub each : (g : ℕ) → g < count → IsRow checks (get_or rows g [])

pub no_rows : (checks count : ℕ) → count ≡ 0 → AreRows checks count []
no_rows checks count e = record { long = omega arith; each = λ g h. absurd (omega arith) }

pub one_more_row : (checks count : ℕ) (row : List ℕ) (rows : List (List ℕ)) → 0 < count → IsRow checks row → AreRows checks (count - 1) rows → AreRows checks count (row ∷ rows)
one_more_row checks count row rows some is are = record { long = omega (arith, are.long); each = each }
  where
    each : (g : ℕ) → g < count → IsRow checks (get_or (row ∷ rows) g [])
    each zero h = is
    each (suc g) h = are.each g (omega arith)

line_by_line : (checks : ℕ) (lines : List (List ℕ)) (left n : ℕ) (rows : List (List ℕ)) → rows_of checks left n lines ≡ Ok rows → AreRows checks left rows
unfolding rows_of
line_by_line checks [] left n rows h =
    let (none, is) = other_fails _ (Ok []) rows _ h in
    let same : [] ≡ rows = cc in
    subst (AreRows checks left) same (no_rows checks left (eqb-true left 0 none))
line_by_line checks (line ∷ lines) left n rows h =
    let on_over : is_ignored (tokens_of line) ≡ true → AreRows checks left rows = λ over. line_by_line checks lines left (n + 1) rows (sym (passes_over checks left n line lines (sym over)) ∙ h) in
    let on_spoken : is_ignored (tokens_of line) ≡ false → AreRows checks left rows = λ over.
    let (some, read) = this_fails _ (ok_cons (row_in checks n (tokens_of line)) (rows_of checks (left - 1) (n + 1) lines)) rows (left == 0) (sym (cond-false _ _ _ over) ∙ h) in
    let (row, others, first, rest, all) = cons_ok (row_in checks n (tokens_of line)) (rows_of checks (left - 1) (n + 1) lines) rows read in
    subst (AreRows checks left) all (one_more_row checks left row others (above_zero left some) (line_is_row checks n (tokens_of line) row over first) (line_by_line checks lines (left - 1) (n + 1) others rest)) in
    bool_cases (is_ignored (tokens_of line)) on_over on_spoken

pub are_rows : (shape : Shape) (rows : List (List ℕ)) → IsShape shape → AreRows (check_count shape) shape.groups rows → IsRows (rows_value shape rows)
are_rows shape rows shaped are = record { shaped = shaped; long = are.long; each = λ g below. (are.each g below).are; some = λ g below. (are.each g below).some; short = λ g below. (are.each g below).short }

-- an accepted text gives the rows of its shape
pub is_rows : (text : List ℕ) (shape : Shape) (rows : List (List ℕ)) → IsShape shape → rows_of_text text shape ≡ Ok rows → IsRows (rows_value shape rows)
is_rows text shape rows shaped h = are_rows shape rows shaped (line_by_line (check_count shape) (lines_of text) shape.groups 1 rows h)
