use Rattle.std.proofs.Common.{rules, ◌+◌, get_or, pos, FitsSigned, w32}
use Rattle.s2_check.proofs.LaneTallies.{by_four}
use Rattle.s2_check.proofs.lane_tally.words_from.Goals as goal

pub returns-clause-fit : goal.returns-clause-fit
returns-clause-fit c = by_four (λ k. FitsSigned w32 (get_or c.args.shares.now (c.args.at + k) (pos 0))) (search rules) (search rules) (search rules) (search rules)
