use Rattle.std.proofs.Common.{◌+◌, ◌-◌, ◌*◌, ◌%◌, ◌<◌, ap, sym, ◌∙◌, arith}
use Rattle.s2_minsum.specs.Rows.{rotated}
use Rattle.s2_minsum.proofs.Places
use Rattle.s2_settle.proofs.moves.shown_by.Goals as goal

pub returns-clause-is : goal.returns-clause-is
returns-clause-is c =
    let s = c.args.shape in
    let n = c.group-n.result in
    let row = c.args.entry.row in
    let turn = ap (λ x. (c.args.lane + x - c.args.entry.shift) % x) c.group-n.ensures.is in
    (λ i. c.first_bit.ensures i + turn i * c.step_of.ensures.is i) ∙ sym (Places.bit_step s c.group-n.ensures.valid row (rotated s.group c.args.entry.shift c.args.lane))

pub returns-clause-few : goal.returns-clause-few
returns-clause-few c =
    let s = c.args.shape in
    let some = c.group-n.ensures.valid.group_some in
    let lane = rotated s.group c.args.entry.shift c.args.lane in
    let low : lane < s.group = omega arith in
    let below = Places.bit_below s c.group-n.ensures.valid c.args.entry.row lane c.requires.row low in
    let is = returns-clause-is c in
    omega (arith, is, below)
