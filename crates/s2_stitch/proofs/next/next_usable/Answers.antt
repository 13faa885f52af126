use Rattle.std.proofs.Common.{◌∷◌, [], ◌++◌, ◌∙◌, refl, subst, sym}
use Rattle.std.proofs.KnownBytes.{Consumes-nil}
use Rattle.s2_stitch.specs.Sources.{AreRead}
use Rattle.s2_stitch.proofs.SourceLemmas.{passed_more, read_end, read_more, read_none}
use Rattle.s2_stitch.proofs.next.next_usable.Goals as goal

pub records-init : goal.records-init
records-init g c = record { passed = ([], read_none c.args.bits _ _ (Consumes-nil _), tt); count = refl }

pub returns-in_default-clause-reads : goal.returns-in_default-clause-reads
returns-in_default-clause-reads g c =
    let remaining = g.Q.CountedRead.remaining in
    let (passed, are, none) = c.records.invariant.passed in
    let reads = rw c.in_default.is at c.in_ok-record.ensures.reads in
    (passed, read_end c.args.bits passed (remaining c.args.records.now) (remaining c.records.records) (remaining c.read_record.new.reader) are reads, reads.1)

pub returns-in-Some-2-clause-reads : goal.returns-in-Some-2-clause-reads
returns-in-Some-2-clause-reads g c =
    let remaining = g.Q.CountedRead.remaining in
    let (passed, are, none) = c.records.invariant.passed in
    let reads = rw c.in-Some.is at c.in_ok-record.ensures.reads in
    let same = rw c.in-Some-2.is at c.in_ok-usable.ensures.same in (
      passed,
      subst (λ r. AreRead c.args.bits (passed ++ r ∷ []) (remaining c.args.records.now) (remaining c.read_record.new.reader)) (sym same)
          (read_more c.args.bits passed c.in-Some.record (remaining c.args.records.now) (remaining c.records.records) (remaining c.read_record.new.reader) are reads),
      none,
    )

pub records-preserved : goal.records-preserved
records-preserved g c =
    let remaining = g.Q.CountedRead.remaining in
    let (passed, are, none) = c.records.invariant.passed in
    let reads = rw c.in-Some.is at c.in_ok-record.ensures.reads in
    let other = rw c.in_default-2.is at c.in_ok-usable.ensures.passed in
    record {
      passed = (
        passed ++ c.in-Some.record ∷ [],
        read_more c.args.bits passed c.in-Some.record (remaining c.args.records.now) (remaining c.records.records) (remaining c.read_record.new.reader) are reads,
        passed_more c.args.matrix.now c.args.from passed c.in-Some.record none other,
      );
      count = c.in_ok-record.ensures.counts ∙ c.records.invariant.count;
    }
