use Rattle.std.proofs.Common.{◌≡◌, ◌-◌, true, false, rules, subst}
use Rattle.s2_stitch.specs.Copies.{SkipsSymbols}
use Rattle.s2_stitch.proofs.SourceLemmas.{copies_to, copies_to_end}
use Rattle.s2_stitch.proofs.copy.copy_to.Goals as goal

pub returns-then-not-branch-clause-copies : goal.returns-then-not-branch-clause-copies
returns-then-not-branch-clause-copies g c =
    let remaining = g.C.CountedRead.remaining in
    let short : c.in_ok-skip.field-0 ≡ false = search rules in
    copies_to_end c.args.at c.args.place.now (c.args.at - c.args.place.now) (remaining c.args.copy.now) (remaining c.skip.new.copy)
    (subst (SkipsSymbols (c.args.at - c.args.place.now) (remaining c.args.copy.now) (remaining c.skip.new.copy)) short c.in_ok-skip.ensures.skips)

pub returns-clause-copies : goal.returns-clause-copies
returns-clause-copies g c =
    let remaining = g.C.CountedRead.remaining in
    let whole : c.in_ok-skip.field-0 ≡ true = search rules in
    copies_to c.args.at c.args.place.now (remaining c.args.copy.now) (remaining c.skip.new.copy) c.requires.place
    (subst (SkipsSymbols (c.args.at - c.args.place.now) (remaining c.args.copy.now) (remaining c.skip.new.copy)) whole c.in_ok-skip.ensures.skips)
