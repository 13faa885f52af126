-- What is read behind some decided bits, token by token.
use Rattle.std.proofs.Common.{◌≡◌, ℕ, ℤ, zero, suc, ◌-◌, ◌<◌, false, List, [], ◌∷◌, ◌++◌, map, length, Result, Ok, Err, refl, sym, ap, ◌∙◌, arith, append-nil}
use Rattle.std.proofs.lemmas.Bool.{cond-false, ne_eqb}
use Rattle.s2_rows.proofs.Pieces.{token_first}
use Rattle.s2_rows.proofs.Afters.{after_cons}
use Rattle.s2_rows.specs.Text.{is_space, is_ignored, is_line_feed, pieces_of, tokens_of}
use Rattle.s2_rows.specs.Readings.{ok_cons, after}
use Rattle.s2_rows.specs.Values.{tokens_at, tokens_from}
use Rattle.s2_judging.specs.Hard.{bit_of, bits_of}
use Rattle.s2_rows.specs.declared.values.ValueFault.{ValueFault}
use Rattle.s2_rows.specs.declared.values.ValueFault.TheVariants as faults

abbrev pub Read : Type 0
Read = Result (List ℤ) ValueFault

abbrev pub numbered : ℕ → List (List ℕ) → List (ℕ × List ℕ)
numbered n tokens = map (λ token. (n, token)) tokens

too_many : (left : ℕ) (token : ℕ × List ℕ) (tokens : List (ℕ × List ℕ)) → left ≡ 0 → bits_of left (token ∷ tokens) ≡ Err faults.TooMany
unfolding bits_of
too_many zero token tokens e = refl
too_many (suc left) token tokens e = cc

pub one_more : (left : ℕ) (token : ℕ × List ℕ) (tokens : List (ℕ × List ℕ)) → 0 < left → bits_of left (token ∷ tokens) ≡ ok_cons (bit_of token.0 token.1) (bits_of (left - 1) tokens)
unfolding bits_of
one_more left token tokens h = cond-false _ _ _ (ne_eqb left 0 (λ e. omega arith))

module _ (n left : ℕ) (front : List ℤ) (rest token behind : List ℕ) (more : List (ℕ × List ℕ)) (pieces : pieces_of is_space rest ≡ token ∷ pieces_of is_space behind) (some : 0 < length token) where
  token_cut : bits_of left (numbered n (tokens_of rest) ++ more) ≡ bits_of left ((n, token) ∷ (numbered n (tokens_of behind) ++ more))
  token_cut = ap (λ tokens. bits_of left (numbered n tokens ++ more)) (token_first rest token behind pieces some)

  pub reads_token : (v : ℤ) → 0 < left → Ok v ≡ bit_of n token → after front (bits_of left (numbered n (tokens_of rest) ++ more)) ≡ after (front ++ v ∷ []) (bits_of (left - 1) (numbered n (tokens_of behind) ++ more))
  reads_token v h value =
      ap (after front) (token_cut ∙ one_more left _ _ h ∙ ap (λ r. ok_cons r (bits_of (left - 1) (numbered n (tokens_of behind) ++ more))) (sym value)) ∙ after_cons front v _

  pub reads_fault : (e : ValueFault) → 0 < left → Err e ≡ bit_of n token → after front (bits_of left (numbered n (tokens_of rest) ++ more)) ≡ Err e
  reads_fault e h value = ap (after front) (token_cut ∙ one_more left _ _ h ∙ ap (λ r. ok_cons r (bits_of (left - 1) (numbered n (tokens_of behind) ++ more))) (sym value))

  pub reads_too_many : left ≡ 0 → after front (bits_of left (numbered n (tokens_of rest) ++ more)) ≡ Err faults.TooMany
  reads_too_many h = ap (after front) (token_cut ∙ too_many left _ _ h)

-- a line that is not ignored
pub not_passed_over : (n : ℕ) (tokens : List (List ℕ)) (more : List (ℕ × List ℕ)) → false ≡ is_ignored tokens → tokens_at n tokens ++ more ≡ numbered n tokens ++ more
not_passed_over n tokens more h = ap (λ tokens. tokens ++ more) (cond-false _ _ _ (sym h))

-- at the end of the text
pub ends_early : (left n : ℕ) (front : List ℤ) (rest : List ℕ) → length rest ≡ 0 → 0 < left → after front (bits_of left (tokens_from n (pieces_of is_line_feed rest))) ≡ Err faults.TooFew
unfolding bits_of pieces_of
ends_early left n front [] e h = ap (after front) (cond-false _ _ _ (ne_eqb left 0 (λ e. omega arith)))
ends_early left n front (b ∷ rest) e h = absurd (omega arith)

pub ends_well : (left n : ℕ) (front : List ℤ) (rest : List ℕ) → length rest ≡ 0 → left ≡ 0 → after front (bits_of left (tokens_from n (pieces_of is_line_feed rest))) ≡ Ok front
unfolding bits_of pieces_of
ends_well (suc left) n front rest e h = cc
ends_well zero n front [] e h = ap Ok (append-nil front)
ends_well zero n front (b ∷ rest) e h = absurd (omega arith)

-- no token is left
pub no_token : (n : ℕ) (rest : List ℕ) (more : List (ℕ × List ℕ)) → length rest ≡ 0 → numbered n (tokens_of rest) ++ more ≡ more
unfolding pieces_of
no_token n [] more e = refl
no_token n (b ∷ rest) more e = absurd (omega arith)
