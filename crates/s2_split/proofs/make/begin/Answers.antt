use Rattle.std.proofs.Common.{arith, ◌∙◌, ap}
use Rattle.s2_matrix.specs.Code.{code_of}
use Rattle.s2_split.specs.Kept.{scaled_at}
use Rattle.s2_check.proofs.Places.{some_member}
use Rattle.s2_split.proofs.MadeLists.{start_kept, start_low}
use Rattle.s2_split.proofs.make.begin.Goals as goal

pub returns-clause-kept : goal.returns-clause-kept
returns-clause-kept c r soft moves =
    start_kept (code_of r) c.args.soft.now c.args.word.now c.args.scale c.start_rests.new.rests c.clear.new.moves (c.start_rests.ensures.long ∙ soft) (c.clear.ensures.long ∙ moves) (λ j low. some_member r j low) (λ i low. c.start_rests.ensures.are i (omega (arith, soft))) c.clear.ensures.none

pub returns-clause-low : goal.returns-clause-low
returns-clause-low c one =
    start_low c.args.soft.now c.args.word.now c.start_rests.new.rests c.requires.range c.start_rests.ensures.long (λ i low. c.start_rests.ensures.are i low ∙ ap (λ s. scaled_at c.args.soft.now c.args.word.now s i) one)
