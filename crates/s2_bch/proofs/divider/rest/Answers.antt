use Rattle.std.proofs.Common.{arith, ◌≡◌, length, subst, take, drop, length-drop, List}
use Rattle.std.specs.Prelude.{Bool}
use Rattle.std.proofs.lemmas.List.{take_all}
use Rattle.s2_bch.specs.Registers.{Holds}
use Rattle.s2_bch.proofs.MessageFacts.{divided, length-divided}
use Rattle.s2_bch.proofs.RegisterFacts.{holds_sum}
use Rattle.s2_bch.proofs.divider.rest.Goals as goal

pub returns : goal.returns
returns c t h e =
    let front = take c.args.front c.args.word.now in
    let back : List Bool = drop c.args.front c.args.word.now in
    let same : length (divided t front) ≡ length back = omega (arith, length-divided t front, length-drop c.args.front c.args.word.now) in
    holds_sum c.divide.result c.read.result c.plus.result (divided t front) back same (c.divide.ensures t h)
    (subst (Holds c.read.result) (take_all _ back (omega (arith, length-drop c.args.front c.args.word.now))) c.read.ensures)
    c.plus.ensures
