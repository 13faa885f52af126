use Rattle.std.proofs.Common.{◌^◌, ◌<◌, arith, subst, sym, ◌∙◌}
use Rattle.s2_map.proofs.Labels.{width_qpsk, width_psk}
use Rattle.s2_map.proofs.points.point.Goals as goal

pub bounds-from : goal.bounds-from
bounds-from c =
    let few : c.args.label < 2 ^ 2 = subst (λ w. c.args.label < 2 ^ w) (width_qpsk c.args.mode (sym c.is_qpsk.ensures.is ∙ c.if-is_qpsk.true)) c.requires in
    omega (arith, c.from.ensures)

pub bounds-from-else-is_qpsk : goal.bounds-from-else-is_qpsk
bounds-from-else-is_qpsk c =
    let few : c.args.label < 2 ^ 3 = subst (λ w. c.args.label < 2 ^ w) (width_psk c.args.mode (sym c.is_qpsk.ensures.is ∙ c.if-is_qpsk.false)) c.requires in
    omega (arith, c.from-else-is_qpsk.ensures)
