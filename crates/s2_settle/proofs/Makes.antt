-- What passes find, and its certificate.
use Rattle.std.proofs.Common.{◌≡◌, ℕ, List, ap, sym, subst, refl, ◌∙◌, ℤ, Bool, true, false, Option, None, Some}
use Rattle.std.proofs.lemmas.Bool.{true≢false}
use Rattle.s2_rows.specs.Rows.{Rows}
use Rattle.s2_matrix.specs.Code.{code_of}
use Rattle.s2_check.specs.Views.{View}
use Rattle.s2_check.specs.Moves.{Move}
use Rattle.s2_settle.specs.Plain.{State}
use Rattle.s2_settle.specs.Layer.{Held}
use Rattle.s2_settle.specs.Settled.{moved_view, moves_in, if_strict, view_in, ended, settled}
use Rattle.s2_settle.specs.Placing.{moves_of, Finds}
use Rattle.s2_settle.specs.Shows.{IsShown, ShowsEnd}
use Rattle.s2_settle.proofs.PlainSettled.{moves_shown}

pub found_is : (rows : Rows) (h : Held) (found : Bool) (ms : List Move) (o : Option State) → found ≡ true → ShowsEnd rows o found h → ms ≡ moves_of rows h.targets h.amounts → Finds rows o true ms
found_is rows h found ms None yes' ends are = absurd (true≢false (sym yes' ∙ ends))
found_is rows h found ms (Some s) yes' ends are = (refl, are ∙ moves_shown rows h s ends.1)

pub never_found : (rows : Rows) (h : Held) (found : Bool) (ms : List Move) (o : Option State) → found ≡ false → ShowsEnd rows o found h → Finds rows o false ms
never_found rows h found ms None no' ends = refl
never_found rows h found ms (Some s) no' ends = absurd (true≢false (sym ends.0 ∙ no'))

-- passes that find nothing settle nothing
pub none_settled : (rows : Rows) (soft : List ℤ) (word : List Bool) (passes : ℕ) (found : Bool) (ms : List Move) → found ≡ false → Finds rows (ended rows soft word passes) found ms → settled rows soft word passes ≡ None
unfolding settled
none_settled rows soft word passes found ms no' finds = lift (ended rows soft word passes) finds
  where
    lift : (o : Option State) → Finds rows o found ms → view_in rows soft word o ≡ None
    lift None e = refl
    lift (Some s) e = absurd (true≢false (sym e.0 ∙ no'))

-- what passes find is a certificate where that is strict
pub found_settled : (rows : Rows) (soft : List ℤ) (word : List Bool) (passes : ℕ) (found : Bool) (ms : List Move) → found ≡ true → Finds rows (ended rows soft word passes) found ms → settled rows soft word passes ≡ if_strict rows (moved_view rows soft word ms)
unfolding settled
found_settled rows soft word passes found ms yes' finds = lift (ended rows soft word passes) finds
  where
    lift : (o : Option State) → Finds rows o found ms → view_in rows soft word o ≡ if_strict rows (moved_view rows soft word ms)
    lift None e = absurd (true≢false (sym yes' ∙ e))
    lift (Some s) e = ap (λ (xs : List Move). if_strict rows (moved_view rows soft word xs)) (sym e.1)
