use Rattle.std.proofs.Common.{◌<◌, ℕ, get_or, set, length, inl, inr, sym, subst, ◌∙◌, arith}
use Rattle.std.proofs.lemmas.Bool.Decides.{eqb_tells}
use Rattle.std.proofs.lemmas.List.{get_or-set_same, get_or-set_other, length-set}
use Rattle.s2_mode.specs.Mode.{Mode}
use Rattle.s2_plframe.specs.Header.{header_bit}
use Rattle.s2_plframe.specs.Inside.{IsHeader}
use Rattle.s2_scan.specs.Passing.{code_at}
use Rattle.s2_scan.proofs.codes.all_headers.Goals as goal

pub loop-header-preserved : goal.loop-header-preserved
loop-header-preserved c = record {
  are = λ h lt.
      let xs = c.loop-header.headers in
      let n = c.loop-header.header in
      let new = c.header_number.result in
      let made : IsHeader (header_bit (code_at n)) new = subst (λ (m : Mode). IsHeader (header_bit m) new) c.code_at.ensures c.header_number.ensures in
      let within : n < length xs = omega (arith, c.loop-header.invariant.size) in
      elim (eqb_tells h n) [
        | inl same ↦
            let there : IsHeader (header_bit (code_at n)) (get_or (set xs n new) n 0) = subst (IsHeader (header_bit (code_at n))) (sym (get_or-set_same xs n new 0 within)) made in
            subst (λ (i : ℕ). IsHeader (header_bit (code_at i)) (get_or (set xs n new) i 0)) (sym same.1) there
        | inr other ↦
            let apart = other.1 in
            subst (IsHeader (header_bit (code_at h))) (sym (get_or-set_other xs n h new 0 apart)) (c.loop-header.invariant.are h (omega (arith, apart, lt)))
      ];
  size = length-set c.loop-header.headers c.loop-header.header c.header_number.result ∙ c.loop-header.invariant.size;
}

pub returns : goal.returns
returns c = λ h lt. c.loop-header.invariant.are h (omega arith)
