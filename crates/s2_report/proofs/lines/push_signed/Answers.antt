use Rattle.std.proofs.Common.{SFits, w64, sym, subst}
use Rattle.std.proofs.lemmas.Int.{to_z-of_z}
use Rattle.s2_report.proofs.ReadBack.{signed_line}
use Rattle.s2_report.proofs.Rooms.{number_within}
use Rattle.s2_report.proofs.lines.push_signed.Goals as goal

pub returns-clause-room : goal.returns-clause-room
returns-clause-room c =
    let fits = subst (SFits w64) (sym (to_z-of_z w64 c.args.number c.ranges.number)) c.ranges.number in
    number_within _ _ _ _ fits c.push_number.ensures.bytes

pub returns-clause-line : goal.returns-clause-line
returns-clause-line c = signed_line c.args.number c.ranges.number
