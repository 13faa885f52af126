-- The tokens of a line, however it is laid out.
use Rattle.std.proofs.Common.{◌≡◌, ℕ, ◌<◌, true, List, [], ◌∷◌, ◌++◌, filter, length, inl, inr, refl, sym, ap, ◌∙◌, append-nil}
use Rattle.std.proofs.lemmas.Bool.{cond-true}
use Rattle.s2_rows.specs.Layouts.{AreSpaces, EndsToken, IsIgnored}
use Rattle.s2_rows.specs.Text.{is_space, is_token, in_front, pieces_of, tokens_of, is_ignored}
use Rattle.s2_rows.proofs.Decimals.{Lacks}
use Rattle.s2_rows.proofs.Pieces.{token_first}
use Rattle.s2_rows.proofs.WrittenRows.{piece_is_cut, one_token}

pub tokens_after_gap : (gap t : List ℕ) → AreSpaces gap → tokens_of (gap ++ t) ≡ tokens_of t
unfolding pieces_of
tokens_after_gap [] t are = refl
tokens_after_gap (b ∷ gap) t are = ap (filter is_token) (cond-true _ _ _ are.0) ∙ tokens_after_gap gap t are.1

pub no_tokens_alone : (gap : List ℕ) → AreSpaces gap → tokens_of gap ≡ []
unfolding pieces_of
no_tokens_alone gap are = ap tokens_of (sym (append-nil gap)) ∙ tokens_after_gap gap [] are

comment_passed : (comment : List ℕ) → is_ignored (tokens_of (35 ∷ comment)) ≡ true
unfolding pieces_of
comment_passed comment = first (pieces_of is_space comment)
  where
    first : (pieces : List (List ℕ)) → is_ignored (filter is_token (in_front 35 pieces)) ≡ true
    first [] = refl
    first (piece ∷ pieces) = refl

pub silent_passed : (line : List ℕ) → IsIgnored line → is_ignored (tokens_of line) ≡ true
silent_passed line (inl are) = ap is_ignored (no_tokens_alone line are)
silent_passed line (inr (gap, comment, is, are)) =
    ap (λ l. is_ignored (tokens_of l)) is ∙ ap is_ignored (tokens_after_gap gap (35 ∷ comment) are) ∙ comment_passed comment

pub token_then : (token rest : List ℕ) → 0 < length token → Lacks is_space token → EndsToken rest → tokens_of (token ++ rest) ≡ token ∷ tokens_of rest
unfolding pieces_of
token_then token [] some apart ends = ap tokens_of (append-nil token) ∙ one_token token some apart
token_then token (b ∷ t) some apart ends =
    token_first (token ++ b ∷ t) token t (piece_is_cut is_space token b t apart ends) some ∙ ap (λ tokens. token ∷ tokens) (sym (tokens_after_gap (b ∷ []) t (ends, tt)))
