use Rattle.std.proofs.Common.{[], ◌∷◌, ◌++◌, sym, arith, subst}
use Rattle.std.proofs.lemmas.Grind.{common_steps}
use Rattle.s2_bbframe.specs.DataStream.{Sliced}
use Rattle.s2_bbframe.proofs.Streams.{Sliced-packet}
use Rattle.s2_bbframe.proofs.slicer.Slicer.put.Goals as goal
use Rattle.s2_bbframe.proofs.slicer.Slicer.put.Goals.{then-not-self, else-not-self}

pub returns-clause-packet : goal.returns-clause-packet
returns-clause-packet c =
    elim c.if-not-self.branch [
      | then-not-self w ↦ let k = c.self.view_is in grind (arith, common_steps)
      | else-not-self w ↦ let k = c.self.view_is in grind (arith, common_steps)
    ]

pub returns-clause-stream : goal.returns-clause-stream
returns-clause-stream c = λ ps fs h. subst (Sliced (ps ++ c.args.packet.now ∷ []) fs) (sym (returns-clause-packet c)) (Sliced-packet ps fs c.args.packet.now c.args.self.now h)
