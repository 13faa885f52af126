use Rattle.std.proofs.Common.{rules, ◌≡◌, ◌≢◌, ◌+◌, ℕ, ℤ, true, false, List, get_or, pos, w32, sym, subst, ◌∙◌, arith}
use Rattle.std.proofs.lemmas.Int.{to_z-of_z}
use Rattle.s2_matrix.specs.Code.{code_of}
use Rattle.s2_check.specs.Hard.{differs}
use Rattle.s2_split.specs.Greedy.{Moved, none_moved, serve}
use Rattle.s2_split.specs.Kept.{served, AreLow, AreKept, HaveOneSign}
use Rattle.s2_check.specs.Moves.{Move}
use Rattle.s2_split.proofs.Passes.{fold_passed, fold_left_out, lists_as}
use Rattle.s2_split.proofs.Signs.{none_more}
use Rattle.s2_split.proofs.greedy.serve_between.Goals as goal
use Rattle.s2_split.proofs.greedy.serve_between.Goals.{then-differs, else-differs}

pub serve-requires-clause-start : goal.serve-requires-clause-start
serve-requires-clause-start c = record {
  soft = c.args.soft.now;
  word = c.args.word.now;
  m = served (code_of c.args.matrix.now) c.args.soft.now c.args.word.now c.loop-bit.bit;
  range = c.requires.range;
  kept = c.loop-bit.invariant.kept;
}

pub loop-bit-preserved : goal.loop-bit-preserved
loop-bit-preserved c =
    let code = code_of c.args.matrix.now in
    let soft = c.args.soft.now in
    let word = c.args.word.now in
    let e = c.loop-bit.bit in
    let was = c.loop-bit.rests in
    let left = c.if-differs.rests in
    let next = served code soft word (e + 1) in
    let P : List ℤ → List Move → Type 0 = λ r ms. (AreLow r × AreKept code soft word 1 next r ms × ((k : ℕ) → k ≢ e → HaveOneSign (get_or was k (pos 0)) (get_or r k (pos 0)))) in
    let done : P left c.if-differs.moves = elim c.if-differs.branch [
      | then-differs w ↦ (
          let passes : differs soft word e ≡ true = sym c.differs.ensures ∙ w.if-differs.true in
          let is = sym (fold_passed (serve code soft word) none_moved (differs soft word) e passes) in
          let kept = subst (λ (n : Moved). AreKept code soft word 1 n w.serve.new.rests w.serve.new.moves) is (w.serve.ensures.kept soft word (served code soft word e) c.loop-bit.invariant.kept) in
          lists_as P w.serve.new.rests left w.serve.new.moves c.if-differs.moves w.rests-is w.moves-is (w.serve.ensures.low, kept, w.serve.ensures.others)
          )
      | else-differs w ↦ (
          let fails : differs soft word e ≡ false = sym c.differs.ensures ∙ w.if-differs.false in
          let is = sym (fold_left_out (serve code soft word) none_moved (differs soft word) e fails) in
          let kept = subst (λ (n : Moved). AreKept code soft word 1 n was c.loop-bit.moves) is c.loop-bit.invariant.kept in
          lists_as P was left c.loop-bit.moves c.if-differs.moves w.rests-is w.moves-is (c.loop-bit.invariant.low, kept, λ k other. (λ h. h, λ h. h))
          )
    ] in
    let signs = done.2 in
    record {
      low = done.0;
      kept = done.1;
      before = λ k low. (
          let old = c.loop-bit.invariant.before k low in
          let new = signs k (λ same. omega arith) in (λ h. new.0 (old.0 h), λ h. old.1 (new.1 h))
          );
      test = none_more c.args.from e was left c.loop-bit.none _ (to_z-of_z w32 (get_or left e (pos 0)) (search rules)) (omega arith) signs c.loop-bit.invariant.test;
    }
