use Rattle.std.proofs.Common.{ap, ◌∙◌}
use Rattle.s2_matrix.specs.Code.{code_of}
use Rattle.s2_judge.specs.Judging.{Judging}
use Rattle.s2_judge.proofs.judge.Judge.word.Goals as goal

pub returns-clause-long : goal.returns-clause-long
returns-clause-long c =
    c.self.invariant.bits_long ∙ ap (λ (v : Judging). (code_of v.rows).bits) c.self.view_is
