use Rattle.std.proofs.Common.{◌≡◌, ◌<◌, ◌⊎◌, ℕ, List, None, inl, inr, ap, sym, ◌∙◌, arith}
use Rattle.std.proofs.Math.Nat.{eq-or-lt_of_le}
use Rattle.s2_resync.specs.Syncs.{distance_at}
use Rattle.s2_resync.proofs.syncs.first_syncs.Goals as goal

-- no place up to this one has five sync bytes, if none before it has
up_to : (bytes : List ℕ) (at : ℕ) → ((place : ℕ) → place < at → distance_at bytes place ≡ None) → distance_at bytes at ≡ None
    → (place : ℕ) → (place ≡ at) ⊎ (place < at) → distance_at bytes place ≡ None
up_to bytes at before here place (inl same) = ap (distance_at bytes) same ∙ here
up_to bytes at before here place (inr less) = before place less

-- src/syncs.rt:58:5
pub loop-place-preserved : goal.loop-place-preserved
loop-place-preserved c place less =
    up_to c.args.bytes.now c.loop-place.place c.loop-place.invariant (sym c.distance_at.ensures ∙ c.in_default.is) place (eq-or-lt_of_le (search (arith)))
