use Rattle.std.proofs.Common.{length, subst, ap, ◌∙◌, arith}
use Rattle.s2_certfile.specs.declared.version.Version.{Version}
use Rattle.s2_certfile.specs.Field.{entry}
use Rattle.s2_certfile.specs.Format.{share, move, IsCount}
use Rattle.s2_certfile.proofs.EntryLemmas.{length-listed}
use Rattle.s2_certfile.proofs.contents.read_split.Goals as goal

pub returns-in_ok-list-in-Listed-clause-fits : goal.returns-in_ok-list-in-Listed-clause-fits
returns-in_ok-list-in-Listed-clause-fits c =
    let e = c.in_ok-list-in-Listed.ensures in
    let long = ap length e.are ∙ length-listed (λ k. share.value (entry share.size c.args.bytes.now k)) c.args.header.now.count in
    (omega (arith, long, c.requires.header.few), e.fit)

pub returns-in_ok-list-in-Moved-clause-fits : goal.returns-in_ok-list-in-Moved-clause-fits
returns-in_ok-list-in-Moved-clause-fits c =
    let e = c.in_ok-list-in-Moved.ensures in
    let long = ap length e.are ∙ length-listed (λ k. move.value (entry move.size c.args.bytes.now k)) c.args.header.now.count in
    let P : Version → Type 0 = λ v. IsCount v c.args.header.now.shape c.args.header.now.count in
    (long ∙ subst P c.in-Moved.is c.requires.header.counted, e.fit)
