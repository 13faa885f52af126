-- Notes, and behind them the line of a fault.
use Rattle.std.proofs.Common.{◌≡◌, ℕ, ◌≤◌, List, [], ◌∷◌, Option, Err, sym, ◌∙◌, subst, refl, arith}
use Rattle.std.specs.Io.KnownBytes.{Appends}
use Rattle.std.proofs.KnownBytes.{Appends-trans}
use Rattle.s2_io.specs.declared.fault.Fault.{Fault}
use Rattle.s2_io.specs.Faults.{fault_line}
use Rattle.s2_io.specs.Notes.{Remarks}
use Rattle.s2_io.specs.Screens.{Screen}

-- the notes of a fault stand before its line
pub remarks : (notes : List ℕ) (f : Fault) (old new : Screen) (mid : Option (List ℕ)) (mid_failed : ℕ)
    → (mid_failed ≡ old.errors_failed → Appends old.errors mid notes)
    → (notes ≡ [] → mid ≡ old.errors) → (notes ≡ [] → mid_failed ≡ old.errors_failed)
    → old.errors_failed ≤ mid_failed → mid_failed ≤ new.errors_failed
    → (new.errors_failed ≡ mid_failed → Appends mid new.errors (fault_line f)) → Remarks notes (Err f) old new
remarks [] f old new mid mid_failed noted none unfailed up more told =
    λ e. subst (λ (o : Option (List ℕ)). Appends o new.errors (fault_line f)) (none refl) (told (e ∙ sym (unfailed refl)))
remarks (byte ∷ notes) f old new mid mid_failed noted none unfailed up more told =
    λ e.
    let first : mid_failed ≡ old.errors_failed = omega (arith, up, more, e) in
    let last : new.errors_failed ≡ mid_failed = omega (arith, up, more, e) in
    Appends-trans old.errors mid new.errors (byte ∷ notes) (fault_line f) (noted first) (told last)
