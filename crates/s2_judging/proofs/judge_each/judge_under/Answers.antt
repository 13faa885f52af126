use Rattle.std.proofs.Common.{refl}
use Rattle.s2_judging.proofs.JudgeEachLemmas.{no_memory, words_moved}
use Rattle.s2_judging.proofs.judge_each.judge_under.Goals as goal

pub returns-in_default-clause-judges : goal.returns-in_default-clause-judges
returns-in_default-clause-judges g c = no_memory c.args.hard _ _ _ _ _ _

pub returns-clause-judges : goal.returns-clause-judges
returns-clause-judges g c = words_moved c.args.hard _ _ _ _ _ _ _ _ _ _ _ c.in-Ok.ensures.tuning refl c.judge_with.ensures.judges
