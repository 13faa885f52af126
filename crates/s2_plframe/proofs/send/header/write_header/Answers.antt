use Rattle.std.proofs.Common.{◌≢◌, ◌<◌, ◌∙◌, ap, length, arith, get_or-set_other, get_or-set_same, below_more}
use Rattle.s2_plframe.specs.Header.{header_point}
use Rattle.s2_plframe.proofs.send.header.write_header.Goals as goal

pub loop-i-preserved : goal.loop-i-preserved
loop-i-preserved c =
    let i = c.loop-i.i in
    below_more _ _
    (λ k h. let ne : k ≢ i = omega arith in rw get_or-set_other (c.loop-i.invariant k h))
    (let lt : i < length c.loop-i.out = omega arith in rw get_or-set_same (c.header_point.ensures ∙ ap (header_point i) c.header_bit.ensures))
