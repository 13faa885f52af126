-- The certificate that passes find (own): their moves check by check, if their bound reaches the scaled cost and every
-- rest is at least 1.
use Rattle.std.specs.Prelude.{ℕ, ◌==◌, nat_lt, Bool, not, ◌&&◌, if◌then◌else◌, List, map, length, ℤ, pos, ◌*ℤ◌, int_lt, Option, None, Some}
use Rattle.std.specs.List.{position_or_len, list_all}
use Rattle.s2_rows.specs.Rows.{Rows}
use Rattle.s2_matrix.specs.Total.{upto}
use Rattle.s2_matrix.specs.Code.{Code, code_of, members}
use Rattle.s2_check.specs.Cost.{cost}
use Rattle.s2_check.specs.Split.{bound, rest}
use Rattle.s2_check.specs.Moves.{Move, no_move, in_favour}
use Rattle.s2_check.specs.Views.{View, placed_view}
use Rattle.s2_check.specs.Checking.{split_in}
use Rattle.s2_settle.specs.Plain.{settling_scale, State, start, at_first, passes}

abbrev pub place_in : List ℕ → ℕ → ℕ
place_in members bit = position_or_len (λ m. m == bit) members

-- the move of an amount to a bit of a check; none to a bit that is no member
abbrev pub move_to : List ℕ → ℕ → ℕ → Move
move_to members bit amount =
    if amount == 0 then no_move else
    if nat_lt (place_in members bit) (length members) then record { place = place_in members bit; amount = amount } else no_move

-- the move of check j
abbrev pub move_in : Code → State → ℕ → Move
move_in code s j = move_to (members code j) (s.target j) (s.amount j)

-- the moves of all checks
abbrev pub moves_in : Code → State → List Move
moves_in code s = map (move_in code s) (upto code.checks)

-- the certificate of moves
abbrev pub moved_view : Rows → List ℤ → List Bool → List Move → View
moved_view rows soft word ms =
    placed_view rows settling_scale soft word ms

-- whether the bound that a certificate's split shows reaches the scaled cost of its word
abbrev pub reaches : Rows → View → Bool
reaches rows v =
    not (int_lt (bound (code_of rows) v.soft (split_in rows v)) (pos v.scale *ℤ cost v.soft v.bits))

-- whether every rest that a certificate leaves is at least 1 in favour of its word
unfoldable pub is_strict : Rows → View → Bool
is_strict r v =
    list_all (λ i. int_lt (pos 0) (in_favour v.bits i (rest (code_of r) v.soft (split_in r v) i))) (upto (code_of r).bits)

-- a certificate, if its bound reaches the scaled cost and it is strict
abbrev pub if_strict : Rows → View → Option View
if_strict rows v = if reaches rows v && is_strict rows v then Some v else None

abbrev pub view_in : Rows → List ℤ → List Bool → Option State → Option View
view_in rows soft word None = None
view_in rows soft word (Some s) = if_strict rows (moved_view rows soft word (moves_in (code_of rows) s))

-- the state in which at most n passes end, if there is one
abbrev pub ended : Rows → List ℤ → List Bool → ℕ → Option State
ended rows soft word most =
    passes (code_of rows) rows.shape.q most 0 (at_first soft) (start soft word)

-- the certificate that n passes find for a codeword
unfoldable pub settled : Rows → List ℤ → List Bool → ℕ → Option View
settled rows soft word most = view_in rows soft word (ended rows soft word most)
