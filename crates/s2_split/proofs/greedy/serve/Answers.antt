use Rattle.std.proofs.Common.{◌≡◌, length, take, take_all, fold, sym, subst, ap, ◌∙◌, arith}
use Rattle.s2_matrix.specs.Code.{code_of, checks_of}
use Rattle.s2_split.specs.Greedy.{Moved, move_to}
use Rattle.s2_split.specs.Kept.{AreKept}
use Rattle.s2_check.proofs.Places.{edge_at, place_by_edge}
use Rattle.s2_split.proofs.Shifts.{rests_within}
use Rattle.s2_split.proofs.Passes.{fold_taken}
use Rattle.s2_split.proofs.greedy.serve.Goals as goal

pub overflow_sub-place : goal.overflow_sub-place
overflow_sub-place c =
    let at = edge_at (code_of c.args.matrix.now) c.args.bit c.loop-at.at c.checks_at-checks.result.now c.edges_at-edges.result.now c.checks_at-checks.ensures.are c.edges_at-edges.ensures.are c.loop-at-test.true in
    omega (arith, at.edge, c.first_edge.ensures)

pub take_from-requires-clause-has : goal.take_from-requires-clause-has
take_from-requires-clause-has c =
    (edge_at (code_of c.args.matrix.now) c.args.bit c.loop-at.at c.checks_at-checks.result.now c.edges_at-edges.result.now c.checks_at-checks.ensures.are c.edges_at-edges.ensures.are c.loop-at-test.true).has

pub take_from-requires-clause-place : goal.take_from-requires-clause-place
take_from-requires-clause-place c =
    let at = edge_at (code_of c.args.matrix.now) c.args.bit c.loop-at.at c.checks_at-checks.result.now c.edges_at-edges.result.now c.checks_at-checks.ensures.are c.edges_at-edges.ensures.are c.loop-at-test.true in
    (place_by_edge (code_of c.args.matrix.now) c.args.bit _ _ _ (omega arith) at.has at.edge c.first_edge.ensures).0

pub take_from-requires-clause-at : goal.take_from-requires-clause-at
take_from-requires-clause-at c =
    let at = edge_at (code_of c.args.matrix.now) c.args.bit c.loop-at.at c.checks_at-checks.result.now c.edges_at-edges.result.now c.checks_at-checks.ensures.are c.edges_at-edges.ensures.are c.loop-at-test.true in
    (place_by_edge (code_of c.args.matrix.now) c.args.bit _ _ _ (omega arith) at.has at.edge c.first_edge.ensures).1

pub take_from-requires-clause-small : goal.take_from-requires-clause-small
take_from-requires-clause-small c =
    let s = c.requires.start in
    rests_within (code_of c.args.matrix.now) s.soft s.word 1 _ c.loop-at.rests (omega arith) s.range c.requires.few (c.loop-at.invariant.kept s.soft s.word s.m s.kept).left

pub take_from-requires-clause-rests_long : goal.take_from-requires-clause-rests_long
take_from-requires-clause-rests_long c =
    let s = c.requires.start in
    (c.loop-at.invariant.kept s.soft s.word s.m s.kept).left.long

pub take_from-requires-clause-moves_long : goal.take_from-requires-clause-moves_long
take_from-requires-clause-moves_long c =
    let s = c.requires.start in
    (c.loop-at.invariant.kept s.soft s.word s.m s.kept).held.long

pub loop-at-preserved : goal.loop-at-preserved
loop-at-preserved c =
    let code = code_of c.args.matrix.now in
    let e = c.args.bit in
    let js = checks_of code e in
    let k = c.loop-at.at in
    let at = edge_at code e k c.checks_at-checks.result.now c.edges_at-edges.result.now c.checks_at-checks.ensures.are c.edges_at-edges.ensures.are c.loop-at-test.true in
    record {
      low = c.take_from.ensures.low;
      kept = λ soft word m start. (
          let now = fold (move_to code soft word e) m (take k js) in
          let next = ap (move_to code soft word e now) at.same ∙ sym (fold_taken (move_to code soft word e) m js k at.listed) in
          subst (λ (n : Moved). AreKept code soft word 1 n c.take_from.new.rests c.take_from.new.moves) next (c.take_from.ensures.kept soft word now (c.loop-at.invariant.kept soft word m start))
          );
      others = λ i other. (
          let was = c.loop-at.invariant.others i other in
          let is = c.take_from.ensures.others i other in (λ h. is.0 (was.0 h), λ h. was.1 (is.1 h))
          );
    }

pub returns-clause-kept : goal.returns-clause-kept
returns-clause-kept c soft word m start =
    let code = code_of c.args.matrix.now in
    let e = c.args.bit in
    let all : take c.loop-at.at (checks_of code e) ≡ checks_of code e = take_all c.loop-at.at (checks_of code e) (omega (arith, ap length c.checks_at-checks.ensures.are)) in
    subst (λ (n : Moved). AreKept code soft word 1 n c.loop-at.rests c.loop-at.moves) (ap (fold (move_to code soft word e) m) all) (c.loop-at.invariant.kept soft word m start)
