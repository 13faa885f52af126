-- A hard decision, bit by bit.
use Rattle.std.proofs.Common.{◌≡◌, ℕ, ◌<◌, false, length, get_or, pos, int_lt, ap, ◌∙◌, arith}
use Rattle.std.proofs.lemmas.List.{get_or-map, length-map}
use Rattle.std.proofs.lemmas.List.FromFn.{length-range_with_len, get_or-range_with_len}
use Rattle.s2_matrix.specs.Total.{upto}
use Rattle.s2_minsum.specs.Plain.{posterior}
use Rattle.s2_minsum.specs.Laws.{DecisionLaw}

pub decision_law : DecisionLaw
decision_law code s =
    let test = λ (i : ℕ). int_lt (posterior code s i) (pos 0) in (
      length-map (upto code.bits) test ∙ length-range_with_len 0 code.bits,
      λ i low.
          let short : i < length (upto code.bits) = omega (arith, low, length-range_with_len 0 code.bits) in
          let place : get_or (upto code.bits) i 0 ≡ i = omega (arith, get_or-range_with_len 0 code.bits i 0 low) in
          get_or-map test (upto code.bits) i 0 false short ∙ ap test place,
    )
