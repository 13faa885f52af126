-- A handle that is filled with what a call made.
use Rattle.std.proofs.Common.{◌≡◌, sym, subst, inl, inr}
use Rattle.std.specs.Prelude.{Option, None, Some, Result, Ok, Err}
use Rattle.s2_library.specs.declared.refusal.Refusal.{Refusal}
use Rattle.s2_library.specs.declared.slot.Slot.{Slot}
use Rattle.s2_c.specs.Handles.{Fills}

pub filled : (makes : Result Slot Refusal → Type 0) (made : Result Slot Refusal) → makes made
    → (new : Option Slot) (result : Result (Unit {0}) Refusal) → Fills (λ answer. answer ≡ made) None new result → Fills makes None new result
filled makes made is (Some t) result (done, same) = (done, subst makes (sym same) is)
filled makes made is None (Ok done) f = f
filled makes made is None (Err refusal) (inl same) = inl (subst makes (sym same) is)
filled makes made is None (Err refusal) (inr (none, (slot, same))) = inr (none, (slot, subst makes (sym same) is))
