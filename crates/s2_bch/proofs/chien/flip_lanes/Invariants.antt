use Rattle.s2_bch.proofs.Places.{AreDone}
use Rattle.s2_bch.proofs.chien.flip_lanes.Given as goal

abbrev pub invariant-loop-lane : goal.invariant-loop-lane
invariant-loop-lane g l = AreDone g.F.Field.field.zero l.values l.stride l.step l.fn.word l.lane l.count l.word
