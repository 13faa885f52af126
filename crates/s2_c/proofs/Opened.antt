-- What a full cell holds, and the one machine value of a type. Assumes nothing.
use Rattle.std.proofs.Common.{◌≡◌, List, [], ◌∷◌, refl, sym, subst}
use Rattle.std.specs.Prelude.{Option, None, Some, IsSome}
use mir.Syntax.{Ty}
use mir.Val.{Val, has_ty, WT}
use lib.Dec.{T}
use denote.Laws.{Typed}

pub held_of : {X : Type 0} (o : Option X) → IsSome o → (x : X) × (o ≡ Some x)
held_of None t = absurd (subst T (sym t) tt)
held_of (Some x) t = (x, refl)

pub one_of : (τ : Ty) (vs : List Val) → Typed (τ ∷ []) vs → (v : Val) × (vs ≡ v ∷ []) × (T (has_ty τ v) × WT v)
one_of τ [] t = absurd t
one_of τ (v ∷ []) t = (v, refl, t.0)
one_of τ (v ∷ w ∷ vs) t = absurd t.1
