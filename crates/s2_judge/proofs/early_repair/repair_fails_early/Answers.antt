use Rattle.std.proofs.Common.{◌≡◌, ◌%◌, eqb-true, List, Bool, count_by, sym, ap, ◌∙◌, arith}
use Rattle.s2_bits.specs.Bits.{bit_at}
use Rattle.s2_matrix.specs.Code.{code_of, ones_in}
use Rattle.s2_split.specs.Scattered.{repaired}
use Rattle.s2_judge.specs.EarlyRepair.{repaired_bit}
use Rattle.s2_judge.proofs.EarlyRepairLemmas.{ones_repaired}
use Rattle.s2_judge.proofs.early_repair.repair_fails_early.Goals as goal

pub returns-then-stays_odd : goal.returns-then-stays_odd
returns-then-stays_odd c = λ _ soft hard codeword.
    let code = code_of c.args.matrix.now in
    let j = c.loop-check.check in
    let places = c.members_at.result.now in
    let even = codeword.even j (omega arith) in
    let count : count_by (repaired_bit code c.args.word.now) places ≡ ones_in code (repaired code soft) j =
    ap (λ (w : List Bool). count_by (repaired_bit code w) places) hard ∙ ones_repaired code soft places c.members_at.ensures.below ∙ ap (count_by (bit_at (repaired code soft))) c.members_at.ensures.are
    in
    let odd : count_by (repaired_bit code c.args.word.now) places % 2 ≡ 1 = eqb-true (count_by (repaired_bit code c.args.word.now) places % 2) 1 (sym c.stays_odd.ensures ∙ c.if-stays_odd.true) in
    omega (arith, even, odd, count)
