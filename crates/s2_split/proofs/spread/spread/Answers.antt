use Rattle.std.proofs.Common.{◌≡◌, suc, ◌-◌, Bool, true, false, sym, subst, ap, ◌∙◌, inl, inr, arith}
use Rattle.std.proofs.lemmas.Bool.{cases_Bool}
use Rattle.s2_matrix.specs.Code.{code_of}
use Rattle.s2_split.specs.Greedy.{Moved, none_moved}
use Rattle.s2_split.specs.Spreading.{has_no_negative_rest, spread, spread_pass, spread_scale, max_spread_passes}
use Rattle.s2_split.specs.Kept.{AreKept, Ends}
use Rattle.s2_split.proofs.Held.{kept_moves}
use Rattle.s2_split.proofs.Passes.{lists_as}
use Rattle.s2_split.proofs.Ends.{passed, passed_more, test_is, spread_now, spread_later, spread_never, spread_stuck, ends_some, ends_none}
use Rattle.s2_split.proofs.spread.spread.Goals as goal

pub bring_counts-requires-clause-rests_long : goal.bring_counts-requires-clause-rests_long
bring_counts-requires-clause-rests_long c = c.passes.invariant.values.kept.left.long

pub next_pass-changed-requires-clause-start : goal.next_pass-changed-requires-clause-start
next_pass-changed-requires-clause-start c = c.passes.invariant.values

pub passes-preserved : goal.passes-preserved
passes-preserved c =
    let code = code_of c.args.matrix.now in
    let p = c.passes.pass in
    let next = c.next_pass-changed in
    let before = c.passes.invariant in
    record {
      left = λ soft word start k h. (
          let m = passed code soft word p in
          let test : has_no_negative_rest code soft word spread_scale m ≡ false = test_is code soft word spread_scale m c.passes.rests c.none_negative.result (before.kept soft word start).left c.none_negative.ensures ∙ c.if-none_negative.false in
          before.left soft word start (suc k) (omega arith) ∙ spread_later code soft word k m test ∙ ap (spread code soft word k) (sym (passed_more code soft word p))
          );
      values = (
          let v = before.values in record { soft = v.soft; word = v.word; m = spread_pass code v.soft v.word v.m; range = v.range; kept = next.ensures.kept v.soft v.word v.m v.kept }
          );
      kept = λ soft word start. subst (λ (n : Moved). AreKept code soft word spread_scale n next.new.rests next.new.moves) (sym (passed_more code soft word p)) (next.ensures.kept soft word (passed code soft word p) (before.kept soft word start));
      counts_long = next.ensures.counts_long ∙ c.bring_counts.ensures.counts_long ∙ before.counts_long;
      counted = next.ensures.counted;
    }

pub returns-then-changed-eq0-clause-moves : goal.returns-then-changed-eq0-clause-moves
returns-then-changed-eq0-clause-moves c =
    let v = c.passes.invariant.values in
    let next = c.next_pass-changed in
    kept_moves (code_of c.args.matrix.now) v.soft v.word spread_scale _ next.new.rests next.new.moves (next.ensures.kept v.soft v.word v.m v.kept)

pub returns-then-changed-eq0-clause-ends : goal.returns-then-changed-eq0-clause-ends
returns-then-changed-eq0-clause-ends c soft word start =
    let code = code_of c.args.matrix.now in
    let k = max_spread_passes - c.passes.pass in
    let m = passed code soft word c.passes.pass in
    let new = c.next_pass-changed.new in
    let rests = c.passes.rests in
    let moves = c.passes.moves in
    let same = c.next_pass-changed.ensures.same c.if-changed-eq0.true in
    let again = λ (n : Moved) (kept : AreKept code soft word spread_scale n rests moves). lists_as (λ r ms. AreKept code soft word spread_scale (spread_pass code soft word n) r ms) new.rests rests new.moves moves (sym same.0) (sym same.1) (c.next_pass-changed.ensures.kept soft word n kept) in
    let never = c.passes.invariant.left soft word start k (omega arith) ∙ spread_stuck code soft word rests moves again c.none_negative.result c.none_negative.ensures c.if-none_negative.false k m (c.passes.invariant.kept soft word start) in
    ends_none code soft word (spread code soft word max_spread_passes none_moved) new.rests new.moves never

pub returns-then-none_negative-clause-moves : goal.returns-then-none_negative-clause-moves
returns-then-none_negative-clause-moves c =
    let v = c.passes.invariant.values in
    kept_moves (code_of c.args.matrix.now) v.soft v.word spread_scale v.m c.passes.rests c.passes.moves v.kept

pub returns-clause-moves : goal.returns-clause-moves
returns-clause-moves c =
    let v = c.passes.invariant.values in
    kept_moves (code_of c.args.matrix.now) v.soft v.word spread_scale v.m c.passes.rests c.passes.moves v.kept

pub returns-then-none_negative-clause-ends : goal.returns-then-none_negative-clause-ends
returns-then-none_negative-clause-ends c soft word start =
    let code = code_of c.args.matrix.now in
    let p = c.passes.pass in
    let m = passed code soft word p in
    let k = max_spread_passes - p in
    let kept = c.passes.invariant.kept soft word start in
    let test : has_no_negative_rest code soft word spread_scale m ≡ true = test_is code soft word spread_scale m c.passes.rests c.none_negative.result kept.left c.none_negative.ensures ∙ c.if-none_negative.true in
    let is = c.passes.invariant.left soft word start k (omega arith) ∙ spread_now code soft word k m test in
    ends_some code soft word (spread code soft word max_spread_passes none_moved) m c.passes.rests c.passes.moves is kept

pub returns-clause-ends : goal.returns-clause-ends
returns-clause-ends c soft word start =
    let code = code_of c.args.matrix.now in
    let m = passed code soft word c.passes.pass in
    let o = spread code soft word max_spread_passes none_moved in
    let kept = c.passes.invariant.kept soft word start in
    let left = c.passes.invariant.left soft word start 0 (omega arith) in
    let is = test_is code soft word spread_scale m c.passes.rests c.none_negative-2.result kept.left c.none_negative-2.ensures in
    elim (cases_Bool c.none_negative-2.result) [
      | inl found ↦ subst (λ (b : Bool). Ends code soft word o b c.passes.rests c.passes.moves) (sym found) (ends_some code soft word o m c.passes.rests c.passes.moves (left ∙ spread_now code soft word 0 m (is ∙ found)) kept)
      | inr none ↦ subst (λ (b : Bool). Ends code soft word o b c.passes.rests c.passes.moves) (sym none) (ends_none code soft word o c.passes.rests c.passes.moves (left ∙ spread_never code soft word m (is ∙ none)))
    ]
