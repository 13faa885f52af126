use Rattle.std.proofs.Common.{◌<◌, ◌≤◌, length, subst}
use Rattle.s2_bits.specs.Bits.{differences}
use Rattle.s2_bch.specs.Errors.{order_of, reach_of, HasRootsIn, HaveSameValuesIn}
use Rattle.s2_bch.specs.declared.bch.Workspace.{Workspace}
use Rattle.s2_bch.proofs.bch.correct_errors.Goals as goal

pub correct_errors-requires-clause-short : goal.correct_errors-requires-clause-short
correct_errors-requires-clause-short c = subst (λ (w : Workspace). length c.args.candidate.now < order_of w) c.in-Normal.is c.requires.short

pub correct_errors-requires-clause-rest : goal.correct_errors-requires-clause-rest
correct_errors-requires-clause-rest c = subst (λ (w : Workspace). HaveSameValuesIn w c.args.rest.now c.args.candidate.now) c.in-Normal.is c.requires.rest

pub correct_errors-requires-in-Short-clause-short : goal.correct_errors-requires-in-Short-clause-short
correct_errors-requires-in-Short-clause-short c = subst (λ (w : Workspace). length c.args.candidate.now < order_of w) c.in-Short.is c.requires.short

pub correct_errors-requires-in-Short-clause-rest : goal.correct_errors-requires-in-Short-clause-rest
correct_errors-requires-in-Short-clause-rest c = subst (λ (w : Workspace). HaveSameValuesIn w c.args.rest.now c.args.candidate.now) c.in-Short.is c.requires.rest

pub returns-in-Normal-clause-only : goal.returns-in-Normal-clause-only
returns-in-Normal-clause-only c g v some roots multiple long near =
    let old = c.args.candidate.now in
    c.correct_errors.ensures.only g v some (subst (λ (w : Workspace). HasRootsIn w g) c.in-Normal.is roots) multiple long
    (subst (λ (w : Workspace). differences (length old) old v ≤ reach_of w) c.in-Normal.is near)

pub returns-in-Short-clause-only : goal.returns-in-Short-clause-only
returns-in-Short-clause-only c g v some roots multiple long near =
    let old = c.args.candidate.now in
    c.correct_errors-in-Short.ensures.only g v some (subst (λ (w : Workspace). HasRootsIn w g) c.in-Short.is roots) multiple long
    (subst (λ (w : Workspace). differences (length old) old v ≤ reach_of w) c.in-Short.is near)
