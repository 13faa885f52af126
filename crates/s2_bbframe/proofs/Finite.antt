-- What a test shows at each number below a bound.
use Rattle.std.proofs.Common.{◌≡◌, ◌≢◌, ℕ, zero, suc, ◌<◌, Bool, true, false, refl, sym, subst, arith, inl, inr}
use Rattle.std.specs.Prelude.{◌&&◌}
use Rattle.std.proofs.lemmas.Bool.Decides.{eqb_tells}

-- a test passes at all numbers below n
abbrev pub passes_below : (ℕ → Bool) → ℕ → Bool
passes_below test zero = true
passes_below test (suc n) = test n && passes_below test n

pub both : (a b : Bool) → (a && b) ≡ true → (a ≡ true) × (b ≡ true)
both true b e = (refl, e)
both false b e = (e, absurd (cc))

pub at_number : (test : ℕ → Bool) (n k : ℕ) → passes_below test n ≡ true → k < n → test k ≡ true
at_number test zero k passes below = absurd (omega arith)
at_number test (suc n) k passes below =
    let parts = both (test n) (passes_below test n) passes in
    elim (eqb_tells k n) [
      | inl same ↦ subst (λ j. test j ≡ true) (sym same.1) parts.0
      | inr other ↦ let ne : k ≢ n = other.1 in at_number test n k parts.1 (omega arith)
    ]
