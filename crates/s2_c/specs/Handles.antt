-- What calls do to handles (own).
use Rattle.std.specs.Prelude.{◌≡◌, ◌⊎◌, Option, None, Some, Result, Ok, Err}
use Rattle.s2_library.specs.declared.refusal.Refusal.{Refusal}
use Rattle.s2_library.specs.declared.refusal.Refusal.TheVariants.{Empty, InUse, NoMemory}
use Rattle.s2_library.specs.declared.slot.Slot.{Slot}

-- An empty handle is filled with what a call makes. Or the call is refused, or memory for the contents is, and the handle stays
-- empty. If it was in use, the refusal says so, and its contents are unchanged
abbrev pub Fills : (Result Slot Refusal → Type 0) → (old new : Option Slot) → Result (Unit {0}) Refusal → Type 0
Fills makes (Some s) new result = (result ≡ Err InUse) × (new ≡ Some s)
Fills makes None (Some t) result = (result ≡ Ok tt) × makes (Ok t)
Fills makes None None (Ok done) = ⊥
Fills makes None None (Err refusal) = makes (Err refusal) ⊎ ((refusal ≡ NoMemory) × ((slot : Slot) × makes (Ok slot)))

-- contents of this kind, from a call that refuses nothing
abbrev pub Makes : (Slot → Type 0) → Result Slot Refusal → Type 0
Makes kind (Ok slot) = kind slot
Makes kind (Err refusal) = ⊥

-- what a call makes of the contents of another handle, which must not be empty
abbrev pub MakesOf : Option Slot → (Slot → Result Slot Refusal → Type 0) → Result Slot Refusal → Type 0
MakesOf None makes result = result ≡ Err Empty
MakesOf (Some s) makes result = makes s result
