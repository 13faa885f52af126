-- Lists of moves, check by check.
use Rattle.std.proofs.Common.{◌≡◌, ℕ, ◌<◌, ◌≤◌, List, length, get_or, replicate, ap, ◌∙◌, inl, inr, arith}
use Rattle.std.proofs.lemmas.Bool.{cases_lt}
use Rattle.std.proofs.lemmas.List.{get_or_past, get_or-replicate, length-replicate}
use Rattle.s2_rows.specs.Rows.{Rows}
use Rattle.s2_matrix.specs.Code.{Code, code_of, members}
use Rattle.s2_check.specs.Moves.{Move, no_move, max_moved, AreMoves}
use Rattle.s2_check.proofs.Places.{some_member}

-- a move that is made, or none
pub record IsMade (members amount : ℕ) (own : Move) : Type 0 where
  pub place : own.place < members
  pub most : own.amount ≤ amount
  pub unmoved : own.amount ≡ 0 → own.place ≡ 0

pub none_made : (members amount : ℕ) → 1 ≤ members → (own : Move) → own ≡ no_move → IsMade members amount own
none_made members amount some own is = record {
  place = omega (arith, ap (λ (m : Move). m.place) is);
  most = omega (arith, ap (λ (m : Move). m.amount) is);
  unmoved = λ _. ap (λ (m : Move). m.place) is;
}

-- a list of moves, each made or none
pub are_moves : (code : Code) (ms : List Move) → length ms ≡ code.checks → ((j : ℕ) → j < code.checks → IsMade (length (members code j)) max_moved (get_or ms j no_move)) → AreMoves code ms
are_moves code ms long each = record {
  long = long;
  targets = λ j low. (each j low).place;
  fit = λ j. elim (cases_lt j (length ms)) [
    | inl low ↦ (let most = (each j (omega (arith, long))).most in omega (arith, most))
    | inr past ↦ omega (arith, ap (λ (m : Move). m.amount) (get_or_past ms j no_move past))
  ];
  unmoved = λ j none. elim (cases_lt j (length ms)) [
    | inl low ↦ (each j (omega (arith, long))).unmoved none
    | inr past ↦ ap (λ (m : Move). m.place) (get_or_past ms j no_move past)
  ];
}

-- a list that moves nothing
pub none_are : (r : Rows) (n : ℕ) (ms : List Move) → n ≡ (code_of r).checks → ms ≡ replicate n no_move → AreMoves (code_of r) ms
none_are r n ms long is =
    let all = ap length is ∙ length-replicate n no_move in
    are_moves (code_of r) ms (all ∙ long) (λ j low. none_made (length (members (code_of r) j)) max_moved (some_member r j low) (get_or ms j no_move) (ap (λ xs. get_or xs j no_move) is ∙ get_or-replicate n j no_move no_move (omega (arith, long))))
