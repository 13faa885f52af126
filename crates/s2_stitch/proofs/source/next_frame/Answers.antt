use Rattle.std.proofs.Common.{◌∙◌, max, Some, None, ap, arith, subst}
use Rattle.s2_mode.specs.Mode.{n_of}
use Rattle.s2_stitch.specs.Frames.{terms_by}
use Rattle.s2_stitch.specs.Usable.{IsUsable, ReadsUsable}
use Rattle.s2_stitch.proofs.SourceLemmas.{counts_frame, counts_record, reads_frame, reads_none, usable_from}
use Rattle.s2_stitch.proofs.source.next_frame.Goals as goal

pub read_usable-requires-clause-usable : goal.read_usable-requires-clause-usable
read_usable-requires-clause-usable g c =
    let rows = c.args.matrix.now in
    let n_is = c.n.ensures.is ∙ ap n_of c.requires.mode in
    let usable = subst (λ n. IsUsable rows n c.max.result c.in-Ok-Some.usable) n_is (rw c.in-Ok-Some.field-0-is at c.in-Ok-Some.ensures.usable) in
    usable_from rows (n_of c.args.reader.now.mode) c.max.result c.args.place.now c.in-Ok-Some.usable (omega (arith, c.max.ensures)) usable

pub returns-in-Ok-Some-clause-reads : goal.returns-in-Ok-Some-clause-reads
returns-in-Ok-Some-clause-reads g c =
    let rows = c.args.matrix.now in
    let n = n_of c.args.reader.now.mode in
    let from = max c.args.at c.args.place.now in
    let old = g.Q.CountedRead.remaining c.args.records.now in
    let new = g.Q.CountedRead.remaining c.next_usable.new.records in
    let u = c.in-Ok-Some.usable in
    let n_is = c.n.ensures.is ∙ ap n_of c.requires.mode in
    let reads = subst (λ k. ReadsUsable rows k from old new (Some u)) n_is (subst (λ k. ReadsUsable rows c.n.result k old new (Some u)) c.max.ensures (rw c.in-Ok-Some.field-0-is at c.in-Ok-Some.ensures.reads)) in
    let usable = subst (λ k. IsUsable rows c.n.result k u) c.max.ensures (rw c.in-Ok-Some.field-0-is at c.in-Ok-Some.ensures.usable) in
    reads_frame (terms_by rows c.args.seed c.args.reader.now) c.args.at c.args.place.now c.read_usable.new.place old new (g.C.CountedRead.remaining c.args.copy.now) (g.C.CountedRead.remaining c.read_usable.new.copy) u c.read_usable.result
    reads usable.of_use.ahead c.read_usable.ensures.frame

pub returns-in-Ok-Some-clause-counts : goal.returns-in-Ok-Some-clause-counts
returns-in-Ok-Some-clause-counts g c = counts_frame _ _ _ _ c.read_usable.result c.in-Ok-Some.ensures.counts c.read_usable.ensures.counts

pub returns-in-Ok-None-clause-reads : goal.returns-in-Ok-None-clause-reads
returns-in-Ok-None-clause-reads g c =
    let rows = c.args.matrix.now in
    let from = max c.args.at c.args.place.now in
    let old = g.Q.CountedRead.remaining c.args.records.now in
    let new = g.Q.CountedRead.remaining c.next_usable.new.records in
    let n_is = c.n.ensures.is ∙ ap n_of c.requires.mode in
    let reads = subst (λ k. ReadsUsable rows k from old new None) n_is (subst (λ k. ReadsUsable rows c.n.result k old new None) c.max.ensures (rw c.in-Ok-None.field-0-is at c.in-Ok-None.ensures.reads)) in
    reads_none (terms_by rows c.args.seed c.args.reader.now) c.args.at c.args.place.now old new (g.C.CountedRead.remaining c.args.copy.now) reads

pub returns-in-Err-clause-counts : goal.returns-in-Err-clause-counts
returns-in-Err-clause-counts g c = counts_record _ _ _ c.in-Err.fault c.in-Err.ensures.counts
