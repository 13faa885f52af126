-- Moves that a file can say.
use Rattle.std.proofs.Common.{ℕ, ◌≤◌, ◌<◌, List, replicate, All, sym, subst, arith, refl}
use Rattle.std.proofs.lemmas.List.{length-replicate, get_or-replicate, get_or_default}
use Rattle.s2_certfile.specs.File.{IsMove}
use Rattle.s2_matrix.specs.Code.{Code}
use Rattle.s2_matrix.proofs.Members.{length-members}
use Rattle.s2_check.specs.Moves.{Move, no_move, AreMoves}

-- where nothing is moved
pub unmoved_fit : (n : ℕ) → All IsMove (replicate n no_move)
unmoved_fit n k d low =
    let here : k < n = omega (arith, low, length-replicate n no_move) in
    subst IsMove (sym (get_or-replicate n k no_move d here)) (record { place_fits = omega arith; amount_fits = omega arith; unmoved = λ none. refl })

-- moves to members of their checks
pub moved_fit : (code : Code) (ms : List Move) → code.bits ≤ 64800 → AreMoves code ms → All IsMove ms
moved_fit code ms few h k d low =
    let same = get_or_default ms k no_move d low in
    let check : k < code.checks = omega (arith, low, h.long) in
    subst IsMove same (record {
      place_fits = omega (arith, few, h.targets k check, length-members code k);
      amount_fits = h.fit k;
      unmoved = h.unmoved k;
    })
