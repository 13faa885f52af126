use Rattle.std.proofs.Common.{◌∙◌, Some, None, ap, subst}
use Rattle.s2_mode.specs.Mode.{symbols_in}
use Rattle.s2_stitch.specs.Copies.{CopiesFrame}
use Rattle.s2_stitch.specs.Frames.{terms_by}
use Rattle.s2_stitch.specs.declared.next.Usable.{Usable}
use Rattle.s2_stitch.proofs.SourceLemmas.{copied_frame, copied_none}
use Rattle.s2_stitch.proofs.source.frame_of.Goals as goal

pub returns-in-Ok-Some-clause-frame : goal.returns-in-Ok-Some-clause-frame
returns-in-Ok-Some-clause-frame g c =
    let remaining = g.C.CountedRead.remaining in
    let size = c.symbols.result in
    let place = c.args.place.now in
    let place_new = c.copy_frame.new.place in
    let old = remaining c.args.copy.now in
    let new = remaining c.copy_frame.new.copy in
    let symbols = c.in-Some.symbols.items in
    let copies = subst (λ at. CopiesFrame size at place place_new old new (Some symbols)) (ap (λ (u : Usable). u.record.at) c.usable.view_is) (rw c.in-Some.is at c.in_ok-symbols.ensures.copies) in
    let makes = rw c.in-Ok-Some.field-0-is at c.in-Ok-Some.ensures.makes in
    copied_frame (terms_by c.args.matrix.now c.args.seed c.args.reader.now) c.args.usable.record size place place_new old new symbols c.in-Ok-Some.frame (c.symbols.ensures.is ∙ ap symbols_in c.requires.mode) copies makes.0 makes.1

pub returns-in-None-clause-frame : goal.returns-in-None-clause-frame
returns-in-None-clause-frame g c =
    let remaining = g.C.CountedRead.remaining in
    let size = c.symbols.result in
    let place = c.args.place.now in
    let place_new = c.copy_frame.new.place in
    let old = remaining c.args.copy.now in
    let new = remaining c.copy_frame.new.copy in
    let copies = subst (λ at. CopiesFrame size at place place_new old new None) (ap (λ (u : Usable). u.record.at) c.usable.view_is) (rw c.in-None.is at c.in_ok-symbols.ensures.copies) in
    copied_none (terms_by c.args.matrix.now c.args.seed c.args.reader.now) c.args.usable.record size place place_new old new copies
