use Rattle.std.proofs.Common.{◌∙◌, ap, sym}
use Rattle.s2_stitch.specs.Frames.{certificate_of}
use Rattle.s2_stitch.proofs.FrameLemmas.{lent}
use Rattle.s2_stitch.proofs.frame.lend.Goals as goal

pub returns-in-Some : goal.returns-in-Some
returns-in-Some c =
    lent c.args.matrix.now c.in-Some.certificate c.view.result (rw c.in-Some.is at c.requires) c.view.ensures.found c.view.ensures.value ∙ ap (certificate_of c.args.matrix.now) (sym c.in-Some.is)
