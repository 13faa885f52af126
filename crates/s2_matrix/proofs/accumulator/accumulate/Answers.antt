use Rattle.std.proofs.Common.{◌∙◌}
use Rattle.s2_matrix.proofs.Blocks.{all_added}
use Rattle.s2_matrix.proofs.accumulator.accumulate.Goals as goal

pub returns-then-q-lt-BLOCK-clause-sums : goal.returns-then-q-lt-BLOCK-clause-sums
returns-then-q-lt-BLOCK-clause-sums c = λ j h. c.write_lanes.ensures.sums j h ∙ all_added c.args.group c.args.q c.args.planes.now c.add_planes_up.new.planes c.requires.some c.add_planes_up.ensures.sums j h

pub returns-else-q-lt-BLOCK-clause-sums : goal.returns-else-q-lt-BLOCK-clause-sums
returns-else-q-lt-BLOCK-clause-sums c = λ j h. c.write_blocks.ensures.sums j h ∙ all_added c.args.group c.args.q c.args.planes.now c.add_planes_up.new.planes c.requires.some c.add_planes_up.ensures.sums j h
