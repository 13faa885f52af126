-- The moves that are made, check by check.
use Rattle.std.proofs.Common.{◌≡◌, ℕ, ◌/◌, ◌%◌, ◌<◌, ◌≤◌, nat_lt, min, cond, List, length, get_or, ap, sym, ◌∙◌, inl, inr, arith, eq-eqb, ne_eqb, lt-ltb, le-ltb}
use Rattle.std.proofs.lemmas.Bool.{cases_lt, cases_eq}
use Rattle.s2_rows.specs.Rows.{Rows}
use Rattle.s2_matrix.specs.Code.{code_of, members}
use Rattle.s2_check.specs.Moves.{Move, no_move, AreMoves}
use Rattle.s2_check.proofs.Places.{some_member}
use Rattle.s2_check.proofs.MoveLists.{IsMade, none_made, are_moves}
use Rattle.s2_settle.specs.Settled.{place_in, move_to}
use Rattle.s2_settle.specs.Placing.{shown, place_of_check, move_of, moves_of}
use Rattle.s2_settle.proofs.Layers.{upto_at, length-upto_map}

move_is : (xs : List ℕ) (bit amount : ℕ) → 1 ≤ length xs → IsMade (length xs) amount (move_to xs bit amount)
move_is xs bit amount some =
    let place = place_in xs bit in
    let made : Move = record { place = place; amount = amount } in
    elim (cases_eq amount 0) [
      | inl none ↦ none_made (length xs) amount some (move_to xs bit amount) (ap (λ b. cond b no_move (cond (nat_lt place (length xs)) made no_move)) (eq-eqb amount 0 none))
      | inr moved ↦ (
          let first : move_to xs bit amount ≡ cond (nat_lt place (length xs)) made no_move = ap (λ b. cond b no_move (cond (nat_lt place (length xs)) made no_move)) (ne_eqb amount 0 moved) in
          elim (cases_lt place (length xs)) [
            | inr out ↦ none_made (length xs) amount some (move_to xs bit amount) (first ∙ ap (λ b. cond b made no_move) (le-ltb place (length xs) out))
            | inl inside ↦ (
                let is : move_to xs bit amount ≡ made = first ∙ ap (λ b. cond b made no_move) (lt-ltb place (length xs) inside) in
                record {
                  place = omega (arith, ap (λ (m : Move). m.place) is);
                  most = omega (arith, ap (λ (m : Move). m.amount) is);
                  unmoved = λ none. absurd (moved (sym (ap (λ (m : Move). m.amount) is) ∙ none));
                }
                )
          ]
          )
    ]

pub moves_are : (rows : Rows) (targets amounts : List ℕ) (ms : List Move) → ms ≡ moves_of rows targets amounts → AreMoves (code_of rows) ms
moves_are rows targets amounts ms is =
    let checks = (code_of rows).checks in
    let f = move_of rows targets amounts in
    are_moves (code_of rows) ms (ap length is ∙ length-upto_map f checks) (λ j low. (
    let at : get_or ms j no_move ≡ f j = ap (λ xs. get_or xs j no_move) is ∙ upto_at no_move f checks j low in
    let bit = shown rows (j % rows.shape.q) (j / rows.shape.q) (get_or targets (place_of_check rows.shape j) 0) in
    let amount = min (get_or amounts (place_of_check rows.shape j) 0) 1048576 in
    let one = move_is (members (code_of rows) j) bit amount (some_member rows j low) in
    record {
      place = omega (arith, ap (λ (m : Move). m.place) at, one.place);
      most = omega (arith, ap (λ (m : Move). m.amount) at, one.most);
      unmoved = λ none. ap (λ (m : Move). m.place) at ∙ one.unmoved (sym (ap (λ (m : Move). m.amount) at) ∙ none);
    }
    ))
