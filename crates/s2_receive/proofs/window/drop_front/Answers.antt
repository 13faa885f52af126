use Rattle.s2_receive.proofs.Names.{◌-◌, take, ap, ◌∙◌}
use Rattle.s2_receive.proofs.FindSteps.{shifted_part}
use Rattle.s2_receive.proofs.window.drop_front.Goals as goal

pub returns-clause-symbols : goal.returns-clause-symbols
returns-clause-symbols c =
    ap (take (c.args.held.now.count - c.args.n)) c.copy_within.ensures.after ∙ shifted_part c.args.buffer.now c.args.n c.args.held.now.count c.requires.some c.requires.count
