use Rattle.std.proofs.Common.{◌≡◌, arith}
use Rattle.s2_scan.proofs.UndoLemmas.{undo_1, undo_2, undo_3, undo_4, undo_5, undo_6, undo_7}
use Rattle.s2_scan.proofs.forms.undo.Goals as goal

pub returns-in-1 : goal.returns-in-1
returns-in-1 c = λ j lt. rw c.in-1.is (undo_1 c.args.signs.odd c.args.signs.even c.negated.result j (c.negated.ensures j lt))

pub returns-in-2 : goal.returns-in-2
returns-in-2 c = λ j lt. rw c.in-2.is (undo_2 c.args.signs.odd c.args.signs.even c.negated-in-2.result c.negated-in-2-2.result j (c.negated-in-2.ensures j lt) (c.negated-in-2-2.ensures j lt))

pub returns-in-3 : goal.returns-in-3
returns-in-3 c = λ j lt. rw c.in-3.is (undo_3 c.args.signs.odd c.args.signs.even c.negated-in-3.result j (c.negated-in-3.ensures j lt))

pub returns-in-4 : goal.returns-in-4
returns-in-4 c = λ j lt. rw c.in-4.is (undo_4 c.args.signs.odd c.args.signs.even c.negated-in-4.result c.negated-in-4-2.result j (c.negated-in-4.ensures j lt) (c.negated-in-4-2.ensures j lt))

pub returns-in-5 : goal.returns-in-5
returns-in-5 c = λ j lt. rw c.in-5.is (undo_5 c.args.signs.odd c.args.signs.even c.negated-in-5.result j (c.negated-in-5.ensures j lt))

pub returns-in-6 : goal.returns-in-6
returns-in-6 c = λ j lt. rw c.in-6.is (undo_6 c.args.signs.odd c.args.signs.even j)

pub returns-in_default : goal.returns-in_default
returns-in_default c = λ j lt.
    let is : c.args.orientation ≡ 7 = omega arith in
    rw is (undo_7 c.args.signs.odd c.args.signs.even c.negated-in_default.result j (c.negated-in_default.ensures j lt))
