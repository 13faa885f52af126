-- What is read behind some addresses of a row, and behind some rows.
use Rattle.std.proofs.Common.{◌≡◌, ℕ, zero, suc, ◌+◌, ◌-◌, ◌<◌, true, false, List, [], ◌∷◌, ◌++◌, length, Ok, Err, sym, ap, ◌∙◌, arith, append-nil}
use Rattle.std.proofs.lemmas.Bool.{cond-true, cond-false, eq-eqb, ne_eqb}
use Rattle.s2_rows.proofs.Pieces.{token_first, no_tokens}
use Rattle.s2_rows.proofs.Afters.{after_cons}
use Rattle.s2_rows.specs.Readings.{ok_cons, after}
use Rattle.s2_rows.specs.RowFiles.{with_token, row_from, row_in, rows_of}
use Rattle.s2_rows.specs.Text.{is_space, pieces_of, tokens_of, lines_of, is_ignored}
use Rattle.s2_rows.specs.declared.row_file.RowFault.{RowFault}
use Rattle.s2_rows.specs.declared.row_file.RowFault.TheVariants as faults

-- a token more
module _ (checks line : ℕ) (row rest token behind : List ℕ) (pieces : pieces_of is_space rest ≡ token ∷ pieces_of is_space behind) (some : 0 < length token) where
  token_more : row_from checks line (Ok row) (tokens_of rest) ≡ row_from checks line (with_token checks line row token) (tokens_of behind)
  unfolding row_from
  token_more = ap (row_from checks line (Ok row)) (token_first rest token behind pieces some)

  pub adds_token : (next : List ℕ) → with_token checks line row token ≡ Ok next → row_from checks line (Ok row) (tokens_of rest) ≡ row_from checks line (Ok next) (tokens_of behind)
  adds_token next e = token_more ∙ ap (λ r. row_from checks line r (tokens_of behind)) e

  pub refuses_token : (fault : RowFault) → with_token checks line row token ≡ Err fault → row_from checks line (Ok row) (tokens_of rest) ≡ Err fault
  unfolding row_from
  refuses_token fault e = token_more ∙ ap (λ r. row_from checks line r (tokens_of behind)) e

pub row_ends : (checks line : ℕ) (row rest : List ℕ) → length rest ≡ 0 → row_from checks line (Ok row) (tokens_of rest) ≡ Ok row
unfolding row_from
row_ends checks line row rest e = ap (row_from checks line (Ok row)) (no_tokens rest e)

-- a line more
module _ (checks left n : ℕ) (line : List ℕ) (lines : List (List ℕ)) where
  pub passes_over : true ≡ is_ignored (tokens_of line) → rows_of checks left n (line ∷ lines) ≡ rows_of checks left (n + 1) lines
  unfolding rows_of
  passes_over h = cond-true _ _ _ (sym h)

  pub too_many_rows : false ≡ is_ignored (tokens_of line) → left ≡ 0 → rows_of checks left n (line ∷ lines) ≡ Err faults.TooManyRows
  unfolding rows_of
  too_many_rows h none = cond-false _ _ _ (sym h) ∙ cond-true _ _ _ (eq-eqb left 0 none)

  pub one_row : false ≡ is_ignored (tokens_of line) → 0 < left → rows_of checks left n (line ∷ lines) ≡ ok_cons (row_in checks n (tokens_of line)) (rows_of checks (left - 1) (n + 1) lines)
  unfolding rows_of
  one_row h some = cond-false _ _ _ (sym h) ∙ cond-false _ _ _ (ne_eqb left 0 (λ e. omega arith))

  pub adds_row : (front : List (List ℕ)) (row : List ℕ) → false ≡ is_ignored (tokens_of line) → 0 < left → row_in checks n (tokens_of line) ≡ Ok row → after front (rows_of checks left n (line ∷ lines)) ≡ after (front ++ row ∷ []) (rows_of checks (left - 1) (n + 1) lines)
  adds_row front row h some e = ap (after front) (one_row h some ∙ ap (λ r. ok_cons r (rows_of checks (left - 1) (n + 1) lines)) e) ∙ after_cons front row _

  pub refuses_row : (front : List (List ℕ)) (fault : RowFault) → false ≡ is_ignored (tokens_of line) → 0 < left → row_in checks n (tokens_of line) ≡ Err fault → after front (rows_of checks left n (line ∷ lines)) ≡ Err fault
  refuses_row front fault h some e = ap (after front) (one_row h some ∙ ap (λ r. ok_cons r (rows_of checks (left - 1) (n + 1) lines)) e)

-- at the end of the text
pub rows_end_early : (checks left n : ℕ) (front : List (List ℕ)) (rest : List ℕ) → length rest ≡ 0 → 0 < left → after front (rows_of checks left n (lines_of rest)) ≡ Err faults.TooFewRows
unfolding rows_of pieces_of
rows_end_early checks left n front [] e h = ap (after front) (cond-false _ _ _ (ne_eqb left 0 (λ e. omega arith)))
rows_end_early checks left n front (b ∷ rest) e h = absurd (omega arith)

pub rows_end_well : (checks left n : ℕ) (front : List (List ℕ)) (rest : List ℕ) → length rest ≡ 0 → left ≡ 0 → after front (rows_of checks left n (lines_of rest)) ≡ Ok front
unfolding rows_of pieces_of
rows_end_well checks (suc left) n front rest e h = cc
rows_end_well checks zero n front [] e h = ap Ok (append-nil front)
rows_end_well checks zero n front (b ∷ rest) e h = absurd (omega arith)
