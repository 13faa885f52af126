-- Without shares the rests in favour of a hard decision are all at least 1 exactly where no soft value is 0.
use Rattle.std.proofs.Common.{◌≢◌, ℕ, ◌↔◌, Bool, cond, length, ℤ, pos, neg_ℤ, ◌≤ℤ◌, int_lt, inl, inr, sym, subst, arith}
use Rattle.std.proofs.lemmas.Bool.{cases_Bool}
use Rattle.std.proofs.lemmas.Int.{ints, by_lt_z}
use Rattle.s2_check.specs.Cost.{value_at}
use Rattle.s2_check.specs.Hard.{hard_decision, UnsplitStrict}
use Rattle.s2_check.proofs.UnsplitSplits.{decided}
use Rattle.s2_check.proofs.ZeroShares.{strict_of_zeros}

favour_some : (v : ℤ) → (v ≢ pos 0) ↔ (pos 1 ≤ℤ cond (int_lt v (pos 0)) (neg_ℤ v) v)
favour_some v =
    let P : Bool → Type 0 = λ b. (v ≢ pos 0) ↔ (pos 1 ≤ℤ cond b (neg_ℤ v) v) in
    elim (cases_Bool (int_lt v (pos 0))) [
      | inl less ↦ subst P (sym less) (λ some. omega (arith, ints, less), λ up none. omega (arith, ints, up, none))
      | inr not_less ↦ subst P (sym not_less) (
        λ some. by_lt_z (pos 0) v (λ more. omega (arith, ints, more)) (λ le. absurd (some (omega (arith, ints, le, not_less)))),
        λ up none. omega (arith, ints, up, none),
      )
    ]

pub unsplit_strict_lem : UnsplitStrict
unsplit_strict_lem code soft n long =
    let word = hard_decision soft in
    let zeros = strict_of_zeros code soft word 1 n (length soft) long (omega arith) in
    let each = λ (i : ℕ). subst (λ b. (value_at soft i ≢ pos 0) ↔ (pos 1 ≤ℤ cond b (neg_ℤ (value_at soft i)) (value_at soft i))) (sym (decided soft i)) (favour_some (value_at soft i)) in (
      λ some. zeros.0 (λ i low. (each i).0 (some i low)),
      λ strict i low. (each i).1 (zeros.1 strict i low),
    )
