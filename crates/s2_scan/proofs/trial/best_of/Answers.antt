use Rattle.std.proofs.Common.{ap, sym, subst, ◌≡◌, ◌∙◌, arith}
use Rattle.s2_scan.specs.Pilots.{IsBest, energy_under}
use Rattle.s2_scan.proofs.BestLemmas.{best_first}
use Rattle.s2_scan.proofs.trial.best_of.Goals as goal

pub loop-number-init : goal.loop-number-init
loop-number-init c = record {
  best = best_first c.args.pilots.now c.tried-best.result.number c.tried-best.ensures.number;
  energy = c.tried-best.ensures.energy ∙ ap (energy_under c.args.pilots.now) (sym c.tried-best.ensures.number);
}

pub returns : goal.returns
returns c =
    let end : c.loop-number.number ≡ 262142 = omega arith in
    subst (λ n. IsBest c.args.pilots.now n c.loop-number.best.number) end c.loop-number.invariant.best
