-- The moves that the shares of a split are (own).
use Rattle.std.specs.Prelude.{◌≡◌, ℕ, ◌==◌, if◌then◌else◌, Bool, List, map, get_or, ℤ, pos, int_lt, unsigned_abs}
use Rattle.std.specs.List.{position_or_len}
use Rattle.s2_matrix.specs.Code.{Code, members}
use Rattle.s2_matrix.specs.Total.{upto}
use Rattle.s2_check.specs.Split.{Split}
use Rattle.s2_check.specs.Moves.{Move, in_favour, placed_of, ArePlaced}

-- the move of a check's shares in favour of a word: the amount is the magnitude of each, and it is moved to the member
-- whose share is negative
abbrev pub move_of : List ℤ → Move
move_of xs = record {
  place = if unsigned_abs (get_or xs 0 (pos 0)) == 0 then 0 else position_or_len (λ x. int_lt x (pos 0)) xs;
  amount = unsigned_abs (get_or xs 0 (pos 0));
}

-- for each check the move that its shares are, in favour of the word: the magnitude of its shares, to the member with
-- a negative share
abbrev pub moves_of : Code → List Bool → Split → List Move
moves_of code word split =
    map (λ j. move_of (map (λ i. in_favour word i (split.share j i)) (members code j))) (upto code.checks)

-- those of a split by moves are these moves
abbrev pub MovesBack : Type 0
MovesBack =
    (code : Code) (word : List Bool) (scale : ℕ) (ms : List Move) → ArePlaced code word ms → moves_of code word (placed_of code word scale ms) ≡ ms
