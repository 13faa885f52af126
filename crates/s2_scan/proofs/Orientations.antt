-- Decisions on symbols that are rotated or conjugated.
use Rattle.std.proofs.Common.{◌≡◌, ◌≢◌, not, ℤ, pos, inl, inr, ap, sym, ◌∙◌, arith}
use Rattle.std.specs.Prelude.{neg_ℤ, ◌+ℤ◌, ◌-ℤ◌, int_lt}
use Rattle.std.proofs.lemmas.Bool.{cases_Bool}
use Rattle.std.proofs.lemmas.Int.{ints}
use Rattle.s2_mode.specs.declared.symbols.Symbol.{Symbol}
use Rattle.s2_scan.specs.Laws.{Follows, IsClear}

same : (x y : ℤ) → x ≡ y → int_lt x (pos 0) ≡ int_lt y (pos 0)
same x y e = ap (λ v. int_lt v (pos 0)) e

-- of a number that is not 0 and its negative one is below 0
opposite : (x y : ℤ) → x ≡ neg_ℤ y → y ≢ pos 0 → int_lt x (pos 0) ≡ not (int_lt y (pos 0))
opposite x y is some = elim (cases_Bool (int_lt y (pos 0))) [
  | inl less ↦ elim (cases_Bool (int_lt x (pos 0))) [ inl both ↦ absurd (omega (arith, ints, is, less, both)) | inr other ↦ other ∙ sym (ap not less) ]
  | inr more ↦ elim (cases_Bool (int_lt x (pos 0))) [ inl one ↦ one ∙ sym (ap not more) | inr none ↦ absurd (omega (arith, ints, is, some, more, none)) ]
]

pub follows : (s : Symbol) → IsClear s → Follows s
follows s clear =
    let first : neg_ℤ s.q +ℤ s.i ≡ neg_ℤ (s.q -ℤ s.i) = omega (arith, ints) in
    let second : s.i -ℤ neg_ℤ s.q ≡ s.i +ℤ s.q = omega (arith, ints) in
    let third : s.i +ℤ neg_ℤ s.q ≡ neg_ℤ (s.q -ℤ s.i) = omega (arith, ints) in
    let fourth : neg_ℤ s.q -ℤ s.i ≡ neg_ℤ (s.i +ℤ s.q) = omega (arith, ints) in
    let apart : s.q -ℤ s.i ≢ pos 0 = λ e. clear.apart (omega (arith, ints, e)) in
    let across : s.i +ℤ s.q ≢ pos 0 = λ e. clear.opposite (omega (arith, ints, e)) in
    record {
      turns = λ t. record { odd = opposite (neg_ℤ s.q +ℤ s.i) (s.q -ℤ s.i) first apart t; even = same (s.i -ℤ neg_ℤ s.q) (s.i +ℤ s.q) second t };
      conjugates = λ t. record { odd = opposite (s.i +ℤ neg_ℤ s.q) (s.q -ℤ s.i) third apart t; even = opposite (neg_ℤ s.q -ℤ s.i) (s.i +ℤ s.q) fourth across t };
    }
