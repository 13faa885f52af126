use Rattle.std.proofs.Common.{◌+◌, subst}
use Rattle.s2_stitch.specs.Copies.{CopiesTo}
use Rattle.s2_stitch.specs.Records.{Record}
use Rattle.s2_stitch.proofs.SourceLemmas.{copied_end}
use Rattle.s2_stitch.proofs.source.end_of.Goals as goal

pub returns-clause-frame : goal.returns-clause-frame
returns-clause-frame g c = λ t.
    copied_end t c.args.own.now c.args.place.now c.copy_to.new.place (g.C.CountedRead.remaining c.args.copy.now) (g.C.CountedRead.remaining c.copy_to.new.copy) _ c.requires.end
    (subst (λ (r : Record). CopiesTo (r.at + 1) c.args.place.now c.copy_to.new.place (g.C.CountedRead.remaining c.args.copy.now) (g.C.CountedRead.remaining c.copy_to.new.copy) c.in_ok-copy_to.field-0) c.own.view_is c.in_ok-copy_to.ensures.copies)
