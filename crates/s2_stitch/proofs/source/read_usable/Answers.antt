use Rattle.std.proofs.Common.{IfOk, subst}
use Rattle.s2_stitch.specs.Frames.{terms_by}
use Rattle.s2_stitch.specs.Usable.{CopiesUsable}
use Rattle.s2_stitch.specs.declared.next.Usable.{Usable}
use Rattle.s2_stitch.proofs.source.read_usable.Goals as goal

pub returns-clause-frame : goal.returns-clause-frame
returns-clause-frame g c =
    let remaining = g.C.CountedRead.remaining in
    let t = terms_by c.args.matrix.now c.args.seed c.args.reader.now in
    subst (λ (u : Usable). IfOk c.end_of.result (CopiesUsable t u.record c.args.place.now c.end_of.new.place (remaining c.args.copy.now) (remaining c.end_of.new.copy))) c.usable.view_is (c.end_of.ensures.frame t)
