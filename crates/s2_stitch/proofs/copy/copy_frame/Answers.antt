use Rattle.std.proofs.Common.{◌≡◌, None, false, true, rules, subst, sym}
use Rattle.s2_stitch.specs.Copies.{CopiesFrame, CopiesTo}
use Rattle.s2_stitch.proofs.SourceLemmas.{copies_cut, copies_whole}
use Rattle.s2_stitch.proofs.copy.copy_frame.Goals as goal

pub returns-then-not-branch-clause-copies : goal.returns-then-not-branch-clause-copies
returns-then-not-branch-clause-copies g c =
    let remaining = g.C.CountedRead.remaining in
    let short : c.in_ok-copy_to.field-0 ≡ false = search rules in
    subst (CopiesTo c.args.at c.args.place.now c.copy_to.new.place (remaining c.args.copy.now) (remaining c.copy_to.new.copy)) short c.in_ok-copy_to.ensures.copies

pub returns-in-Some-clause-copies : goal.returns-in-Some-clause-copies
returns-in-Some-clause-copies g c =
    let remaining = g.C.CountedRead.remaining in
    let whole : c.in_ok-copy_to.field-0 ≡ true = search rules in
    let copies = subst (CopiesTo c.args.at c.args.place.now c.copy_to.new.place (remaining c.args.copy.now) (remaining c.copy_to.new.copy)) whole c.in_ok-copy_to.ensures.copies in
    copies_whole c.args.size c.args.at c.args.place.now (remaining c.args.copy.now) (remaining c.copy_to.new.copy) (remaining c.read_symbols.new.copy) c.in-Some.symbols.items c.requires.size.0
    (subst (λ place. CopiesTo c.args.at c.args.place.now place (remaining c.args.copy.now) (remaining c.copy_to.new.copy) true) copies.1 copies)
    (rw c.in-Some.is at c.in_ok-symbols.ensures.reads)

pub returns-in-None-clause-copies : goal.returns-in-None-clause-copies
returns-in-None-clause-copies g c =
    let remaining = g.C.CountedRead.remaining in
    let whole : c.in_ok-copy_to.field-0 ≡ true = search rules in
    let copies = subst (CopiesTo c.args.at c.args.place.now c.copy_to.new.place (remaining c.args.copy.now) (remaining c.copy_to.new.copy)) whole c.in_ok-copy_to.ensures.copies in
    subst (λ place. CopiesFrame c.args.size c.args.at c.args.place.now place (remaining c.args.copy.now) (remaining c.read_symbols.new.copy) None) (sym copies.1)
    (copies_cut c.args.size c.args.at c.args.place.now (remaining c.args.copy.now) (remaining c.copy_to.new.copy) (remaining c.read_symbols.new.copy)
    (subst (λ place. CopiesTo c.args.at c.args.place.now place (remaining c.args.copy.now) (remaining c.copy_to.new.copy) true) copies.1 copies)
    (rw c.in-None.is at c.in_ok-symbols.ensures.reads))
