use Rattle.std.proofs.Common.{◌≡◌, ◌<◌, ℕ, fold, sym, subst, ◌∙◌, arith}
use Rattle.s2_matrix.specs.Total.{upto}
use Rattle.s2_matrix.specs.Code.{code_of}
use Rattle.s2_split.specs.Greedy.{Moved}
use Rattle.s2_split.specs.Spreading.{spread_check, spread_scale}
use Rattle.s2_split.specs.Kept.{AreKept}
use Rattle.s2_split.proofs.Shifts.{rests_within}
use Rattle.s2_split.proofs.Passes.{fold_upto}
use Rattle.s2_split.proofs.spread.spread_pass.Goals as goal
use Rattle.s2_split.proofs.spread.spread_pass.Goals.{then-not-visit, else-not-visit}

pub visit-requires-clause-small : goal.visit-requires-clause-small
visit-requires-clause-small g c =
    let s = c.requires.start in
    rests_within (code_of c.args.matrix.now) s.soft s.word spread_scale _ c.loop-check.rests (omega arith) s.range c.requires.few (c.loop-check.invariant.kept s.soft s.word s.m s.kept).left

pub visit-requires-clause-rests_long : goal.visit-requires-clause-rests_long
visit-requires-clause-rests_long g c =
    let s = c.requires.start in
    (c.loop-check.invariant.kept s.soft s.word s.m s.kept).left.long

pub visit-requires-clause-moves_long : goal.visit-requires-clause-moves_long
visit-requires-clause-moves_long g c =
    let s = c.requires.start in
    (c.loop-check.invariant.kept s.soft s.word s.m s.kept).held.long

pub visit-requires-clause-held : goal.visit-requires-clause-held
visit-requires-clause-held g c =
    let s = c.requires.start in
    let kept = c.loop-check.invariant.kept s.soft s.word s.m s.kept in
    let low : c.loop-check.check < (code_of c.args.matrix.now).checks = omega (arith, c.check_count-check-end.ensures.is) in
    omega (arith, (kept.held.each c.loop-check.check low).amount_is, kept.left.small c.loop-check.check low)

pub visit-requires-clause-place : goal.visit-requires-clause-place
visit-requires-clause-place g c =
    let s = c.requires.start in
    ((c.loop-check.invariant.kept s.soft s.word s.m s.kept).held.each c.loop-check.check (omega (arith, c.check_count-check-end.ensures.is))).place

pub loop-check-preserved : goal.loop-check-preserved
loop-check-preserved g c =
    let code = code_of c.args.matrix.now in
    let n = c.loop-check.check in
    let before = c.loop-check.invariant in
    record {
      kept = λ soft word m kept. subst (λ (x : Moved). AreKept code soft word spread_scale x c.visit.new.rests c.visit.new.moves) (sym (fold_upto (spread_check code soft word) m n)) (c.visit.ensures.kept soft word (fold (spread_check code soft word) m (upto n)) (before.kept soft word m kept));
      few = elim c.if-not-visit.branch [
        | then-not-visit w ↦ omega (arith, before.few, w.changed-is)
        | else-not-visit w ↦ omega (arith, before.few, w.changed-is)
      ];
      same = λ none. elim c.if-not-visit.branch [
        | then-not-visit w ↦ absurd (omega (arith, none, w.changed-is))
        | else-not-visit w ↦ (
            let now = c.visit.ensures.same w.if-not-visit.false in
            let first = before.same (sym w.changed-is ∙ none) in
            (now.0 ∙ first.0, now.1 ∙ first.1)
            )
      ];
      counts_long = c.visit.ensures.counts_long ∙ before.counts_long;
      counted = c.visit.ensures.counted;
    }

pub returns-clause-kept : goal.returns-clause-kept
returns-clause-kept g c soft word m kept =
    let code = code_of c.args.matrix.now in
    let all : c.loop-check.check ≡ code.checks = omega (arith, c.check_count-check-end.ensures.is) in
    subst (λ (n : ℕ). AreKept code soft word spread_scale (fold (spread_check code soft word) m (upto n)) c.loop-check.rests c.loop-check.moves) all (c.loop-check.invariant.kept soft word m kept)
