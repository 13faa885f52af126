-- The moves that rows and lanes hold are those of the state that they show.
use Rattle.std.proofs.Common.{◌≡◌, ℕ, ◌/◌, ◌%◌, ◌<◌, min, Bool, List, All, get_or, ℤ, Option, None, Some, refl, ap, sym, ◌∙◌, inl, inr, arith, eq-eqb}
use Rattle.std.proofs.lemmas.Bool.{cases_eq}
use Rattle.s2_rows.specs.Rows.{Rows}
use Rattle.s2_matrix.specs.Code.{code_of, members}
use Rattle.s2_check.specs.Moves.{no_move}
use Rattle.s2_settle.specs.Plain.{State}
use Rattle.s2_settle.specs.Layer.{Held}
use Rattle.s2_settle.specs.Settled.{move_to, move_in, moves_in}
use Rattle.s2_settle.specs.Placing.{shown, place_of_check, move_of, moves_of}
use Rattle.s2_settle.specs.Shows.{IsShown}
use Rattle.s2_settle.proofs.Layers.{upto_at, length-upto_map, by_places}

none_moved : (xs : List ℕ) (bit bit' a : ℕ) → a ≡ 0 → move_to xs bit a ≡ move_to xs bit' a
none_moved xs bit bit' a none = (let test = eq-eqb a 0 none in rw test refl)

move_shown : (rows : Rows) (h : Held) (s : State) → IsShown rows h s → (j : ℕ) → j < (code_of rows).checks → move_of rows h.targets h.amounts j ≡ move_in (code_of rows) s j
move_shown rows h s both j low =
    let ms = members (code_of rows) j in
    let most = both.within j in
    let amount : min (get_or h.amounts (place_of_check rows.shape j) 0) 1048576 ≡ s.amount j = omega (arith, both.shows.moves.amount j low, most) in
    let bit = shown rows (j % rows.shape.q) (j / rows.shape.q) (get_or h.targets (place_of_check rows.shape j) 0) in
    ap (move_to ms bit) amount ∙ elim (cases_eq (s.amount j) 0) [
      | inl none ↦ none_moved ms bit (s.target j) (s.amount j) none
      | inr some ↦ ap (λ b. move_to ms b (s.amount j)) (both.shows.moves.target j low (omega arith))
    ]

pub moves_shown : (rows : Rows) (h : Held) (s : State) → IsShown rows h s → moves_of rows h.targets h.amounts ≡ moves_in (code_of rows) s
moves_shown rows h s both =
    let n = (code_of rows).checks in
    by_places no_move (move_in (code_of rows) s) n (moves_of rows h.targets h.amounts) (length-upto_map (move_of rows h.targets h.amounts) n) (λ k lt. upto_at no_move (move_of rows h.targets h.amounts) n k lt ∙ move_shown rows h s both k lt)
