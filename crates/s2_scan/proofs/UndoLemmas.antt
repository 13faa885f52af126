-- Registers whose orientation is undone.
use Rattle.std.proofs.Common.{◌≡◌, ℕ, ◌-◌, ◌^◌, ◌<◌, ◌≤◌, Bool, true, false, List, not, inl, inr, ap, sym, ◌∙◌, refl, arith}
use Rattle.std.specs.Prelude.{◌==◌, nat_le}
use Rattle.std.specs.Int.{bit_at as digit, bit_not, w128}
use Rattle.std.proofs.lemmas.Nat.Bits.{bit_at_not, bit_at-lt}
use Rattle.std.proofs.lemmas.Bool.Decides.{eqb_tells}
use Rattle.s2_plframe.specs.Header.{header_bit, dummy_mode}
use Rattle.s2_plframe.specs.Search.{Decision}
use Rattle.s2_plframe.specs.Inside.{held, held_list, IsHeader, IsWindow}
use Rattle.s2_plframe.proofs.Mismatches.{counted}
use Rattle.s2_scan.specs.Forms.{undo}
use Rattle.s2_scan.specs.Inside.{decisions_by, sof_at}
use Rattle.s2_scan.specs.Passing.{matches_sof}
use Rattle.s2_scan.proofs.Ranges.{same_maps}

pub not_digit : (n i : ℕ) → n < 2 ^ 128 → i < 128 → (digit (bit_not w128 n) i == 1) ≡ not (digit n i == 1)
not_digit n i small inside =
    let flip : digit (bit_not w128 n) i ≡ 1 - digit n i = bit_at_not w128 n i small inside in
    let less : digit n i < 2 = bit_at-lt n i in
    elim (eqb_tells (digit n i) 1) [
      | inl same ↦ let is : digit n i ≡ 1 = same.1 in ap (λ d. d == 1) (flip ∙ ap (λ d. 1 - d) is) ∙ sym (ap not same.0)
      | inr other ↦ let is : digit n i ≡ 0 = omega (arith, other.1) in ap (λ d. d == 1) (flip ∙ ap (λ d. 1 - d) is) ∙ sym (ap not other.0)
    ]

twice : (b : Bool) → b ≡ not (not b)
twice true = refl
twice false = refl

-- the signs of each orientation, by the registers that are negated
pub undo_1 : (odd even no_even j : ℕ) → (digit no_even j == 1) ≡ not (digit even j == 1) → held no_even odd j ≡ undo 1 (held odd even j)
undo_1 odd even no_even j e = λ t. record { odd = e t; even = digit odd j == 1 }

pub undo_2 : (odd even no_odd no_even j : ℕ) → (digit no_odd j == 1) ≡ not (digit odd j == 1) → (digit no_even j == 1) ≡ not (digit even j == 1) → held no_odd no_even j ≡ undo 2 (held odd even j)
undo_2 odd even no_odd no_even j o e = λ t. record { odd = o t; even = e t }

pub undo_3 : (odd even no_odd j : ℕ) → (digit no_odd j == 1) ≡ not (digit odd j == 1) → held even no_odd j ≡ undo 3 (held odd even j)
undo_3 odd even no_odd j o = λ t. record { odd = twice (digit even j == 1) t; even = o t }

pub undo_4 : (odd even no_even no_odd j : ℕ) → (digit no_even j == 1) ≡ not (digit even j == 1) → (digit no_odd j == 1) ≡ not (digit odd j == 1) → held no_even no_odd j ≡ undo 4 (held odd even j)
undo_4 odd even no_even no_odd j e o = λ t. record { odd = e t; even = o t }

pub undo_5 : (odd even no_even j : ℕ) → (digit no_even j == 1) ≡ not (digit even j == 1) → held odd no_even j ≡ undo 5 (held odd even j)
undo_5 odd even no_even j e = λ t. record { odd = twice (digit odd j == 1) t; even = e t }

pub undo_6 : (odd even j : ℕ) → held even odd j ≡ undo 6 (held odd even j)
undo_6 odd even j = λ t. record { odd = twice (digit even j == 1) t; even = twice (digit odd j == 1) t }

pub undo_7 : (odd even no_odd j : ℕ) → (digit no_odd j == 1) ≡ not (digit odd j == 1) → held no_odd even j ≡ undo 7 (held odd even j)
undo_7 odd even no_odd j o = λ t. record { odd = (o ∙ twice (not (digit odd j == 1))) t; even = twice (digit even j == 1) t }

-- the decisions that registers hold are those that others hold, with their orientation undone
pub undone : (orientation odd even odd' even' : ℕ) → ((j : ℕ) → j < 128 → held odd' even' j ≡ undo orientation (held odd even j)) → held_list odd' even' 90 ≡ decisions_by orientation odd even
unfolding decisions_by
undone orientation odd even odd' even' each =
    same_maps (λ k. held odd' even' (90 - 1 - k)) (λ k. undo orientation (held odd even (90 - 1 - k))) 90 (λ k lt. each (90 - 1 - k) (omega arith))

-- the test of the start of frame on numbers is the test on decisions
pub sof_is : (seen : List Decision) (h w : ℕ) → IsHeader (header_bit (dummy_mode false false)) h → IsWindow seen w → sof_at h w ≡ matches_sof seen
sof_is seen h w is_h is_w =
    let inside : 26 ≤ 90 = omega arith in
    ap (λ n. nat_le n 4) (sym (counted (header_bit (dummy_mode false false)) seen h w 26 is_h is_w inside))
