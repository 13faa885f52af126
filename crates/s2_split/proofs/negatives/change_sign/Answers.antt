use Rattle.std.proofs.Common.{◌≡◌, ◌<◌, ◌+◌, ◌-◌, ℕ, List, AllPairs, true, cond, not, length, length-set, take, get_or, pos, int_lt, sym, ap, subst, ◌∙◌, arith}
use Rattle.s2_matrix.specs.Code.{Code, code_of, checks_of}
use Rattle.s2_matrix.proofs.Members.{filter_rising}
use Rattle.s2_check.proofs.BoundListed.{check_at}
use Rattle.s2_split.proofs.Lesser.{IsWrittenAt, not_written, written_more, all_written}
use Rattle.s2_split.proofs.Counted.{turned_at, few_negative, some_negative, counted_turned}
use Rattle.s2_split.proofs.negatives.change_sign.Goals as goal
use Rattle.s2_split.proofs.negatives.change_sign.Goals.{then-becomes_negative, else-becomes_negative}

rising : (code : Code) (bit : ℕ) (js : List ℕ) → js ≡ checks_of code bit → AllPairs (λ a b. a < b) js
rising code bit js are =
    subst (AllPairs (λ a b. a < b)) (sym are) (filter_rising (λ j. code.has j bit) code.checks)

at : (code : Code) (bit i : ℕ) (js : List ℕ) → js ≡ checks_of code bit → i < length js → (get_or js i 0 < code.checks) × (code.has (get_or js i 0) bit ≡ true)
at code bit i js are h =
    subst (λ (l : List ℕ). i < length l → (get_or l i 0 < code.checks) × (code.has (get_or l i 0) bit ≡ true)) (sym are) (check_at code bit i 0) h

pub overflow_add-negatives : goal.overflow_add-negatives
overflow_add-negatives c =
    let code = code_of c.args.matrix.now in
    let old = c.args.negatives.now in
    let js = c.checks_at-checks.result.now in
    let i = c.loop-check.check-index in
    let are = c.checks_at-checks.ensures.are in
    let h : i < length js = omega arith in
    let was = not_written 0 (turned_at c.args.becomes_negative old) js i old c.loop-check.negatives (rising code c.args.bit js are) h c.loop-check.invariant.written in
    let is = c.requires.turns.counted.each (get_or js i 0) (at code c.args.bit i js are h).0 in
    omega (arith, was, is, few_negative code c.requires.turns.rests (get_or js i 0), c.bits-bits.ensures.is, c.bits-bits.ensures.few)

pub overflow_sub-negatives : goal.overflow_sub-negatives
overflow_sub-negatives c =
    let code = code_of c.args.matrix.now in
    let turns = c.requires.turns in
    let bit = c.args.bit in
    let old = c.args.negatives.now in
    let js = c.checks_at-checks.result.now in
    let i = c.loop-check.check-index in
    let are = c.checks_at-checks.ensures.are in
    let h : i < length js = omega arith in
    let was = not_written 0 (turned_at c.args.becomes_negative old) js i old c.loop-check.negatives (rising code bit js are) h c.loop-check.invariant.written in
    let here = at code bit i js are h in
    let is = turns.counted.each (get_or js i 0) here.0 in
    let negative : int_lt (get_or turns.rests bit (pos 0)) (pos 0) ≡ true = turns.changes ∙ ap not c.if-becomes_negative.false in
    omega (arith, was, is, some_negative code turns.rests (get_or js i 0) bit c.requires.bit here.1 negative)

pub loop-check-preserved : goal.loop-check-preserved
loop-check-preserved c =
    let code = code_of c.args.matrix.now in
    let old = c.args.negatives.now in
    let now = c.loop-check.negatives in
    let js = c.checks_at-checks.result.now in
    let i = c.loop-check.check-index in
    let x = get_or js i 0 in
    let are = c.checks_at-checks.ensures.are in
    let h : i < length js = omega arith in
    let f = turned_at c.args.becomes_negative old in
    let before = c.loop-check.invariant in
    let was = not_written 0 f js i old now (rising code c.args.bit js are) h before.written in
    let low : x < length now = omega (arith, before.long, c.requires.turns.counted.long, (at code c.args.bit i js are h).0) in
    elim c.if-becomes_negative.branch [
      | then-becomes_negative w ↦ (
          let turned : f x ≡ get_or old x 0 + 1 = ap (λ b. cond b (get_or old x 0 + 1) (get_or old x 0 - 1)) w.if-becomes_negative.true in
          record {
            long = ap length w.negatives-is ∙ length-set now x _ ∙ before.long;
            written = subst (λ (l : List ℕ). IsWrittenAt 0 f (take (i + 1) js) old l) (sym w.negatives-is) (written_more 0 f js i old now _ h low before.written (omega (arith, was, turned)));
          }
          )
      | else-becomes_negative w ↦ (
          let turned : f x ≡ get_or old x 0 - 1 = ap (λ b. cond b (get_or old x 0 + 1) (get_or old x 0 - 1)) w.if-becomes_negative.false in
          record {
            long = ap length w.negatives-is ∙ length-set now x _ ∙ before.long;
            written = subst (λ (l : List ℕ). IsWrittenAt 0 f (take (i + 1) js) old l) (sym w.negatives-is) (written_more 0 f js i old now _ h low before.written (omega (arith, was, turned)));
          }
          )
    ]

pub returns : goal.returns
returns c = record {
  counted = λ before later same will. (
      let code = code_of c.args.matrix.now in
      let bit = c.args.bit in
      let old = c.args.negatives.now in
      let new = c.loop-check.negatives in
      let js = c.checks_at-checks.result.now in
      let f = turned_at c.args.becomes_negative old in
      let all = all_written 0 f js c.loop-check.check-index old new (omega arith) c.loop-check.invariant.written in
      let written = subst (λ (l : List ℕ). IsWrittenAt 0 f l old new) c.checks_at-checks.ensures.are all in
      counted_turned code before.rests later bit c.args.becomes_negative old new c.requires.bit same before.changes will before.counted c.loop-check.invariant.long written
      );
}
