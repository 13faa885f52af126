use Rattle.s2_matrix.specs.Code.{code_of}
use Rattle.s2_split.specs.Greedy.{greedy}
use Rattle.s2_split.proofs.Ends.{test_is}
use Rattle.s2_split.proofs.make.try_greedily.Goals as goal

pub greedy-requires-clause-start : goal.greedy-requires-clause-start
greedy-requires-clause-start c = c.begin.ensures.kept c.args.matrix.now c.requires.soft c.requires.moves

pub returns-clause-test : goal.returns-clause-test
returns-clause-test c =
    let code = code_of c.args.matrix.now in
    test_is code c.args.soft.now c.args.word.now 1 (greedy code c.args.soft.now c.args.word.now) c.greedy.new.rests c.greedy.result c.greedy.ensures.kept.left c.greedy.ensures.test
