use Rattle.std.proofs.Common.{◌≡◌, ℕ, ◌+◌, List, [], Option, Ok, Some, None, refl, subst, ◌∙◌}
use Rattle.std.specs.Io.KnownBytes.{Appends}
use Rattle.std.proofs.lemmas.Result.{err_from_is_err_and}
use Rattle.s2_mode.specs.Pieces.{AppendsPart}
use Rattle.s2_compare.specs.declared.compared.Compared.{Compared}
use Rattle.s2_compare.specs.Feeding.{feeds, ComparesNext}
use Rattle.s2_compare.specs.Stepping.{Comparing}
use Rattle.s2_compare.proofs.EachLemmas.{none_yet, grows, ends_well, ends_cut}
use Rattle.s2_compare.proofs.each.compare_all.Goals as goal

pub frames-init : goal.frames-init
frames-init g c = record {
  so_far = ([], refl, none_yet c.args.comparer.now.form c.args.comparer.now.rows (feeds (g.R.CountedRead.remaining c.args.certificates.now) (g.R.CountedRead.remaining c.args.words.now)) (g.O.CountedWrite.contents c.args.out.now), c.none-counts.ensures);
  same = refl;
  certificate_reads = refl;
  word_reads = refl;
  writes = refl;
}

pub returns-in_err-print_line-in-None-clause-compares : goal.returns-in_err-print_line-in-None-clause-compares
returns-in_err-print_line-in-None-clause-compares g c =
    let (frames, size, so, are) = c.frames.invariant.so_far in
    let p = err_from_is_err_and c.from_residual-in_err-print_line-in-None.result c.from_residual-in_err-print_line-in-None.ensures.1 in
    let (both, unprinted) = subst (λ (o : Option Compared). ComparesNext c.frames.comparer.form c.frames.comparer.rows (c.frames.counts.frames + 1) (feeds (g.R.CountedRead.remaining c.frames.certificates) (g.R.CountedRead.remaining c.frames.words))
    (feeds (g.R.CountedRead.remaining c.compare_next.new.certificates) (g.R.CountedRead.remaining c.compare_next.new.words)) (g.O.CountedWrite.contents c.frames.out) (g.O.CountedWrite.contents c.compare_next.new.out) (Ok o)) c.in-None.is c.in_ok-compare_next.ensures.compares in
    let (failed, part) = c.in_err-print_line-in-None.ensures.part in
    rw (p.1, p.2) (ends_cut c.args.comparer.now.form c.args.comparer.now.rows _ _ _ frames _ _ _ c.frames.counts c.in_err-print_line-in-None.field-0.0 _ so are both unprinted failed
    (subst (λ (line : List ℕ). AppendsPart line (g.O.CountedWrite.contents c.compare_next.new.out) (g.O.CountedWrite.contents c.print_line.new.out)) c.counts_line.ensures part))

pub returns-in-None-clause-compares : goal.returns-in-None-clause-compares
returns-in-None-clause-compares g c =
    let (frames, size, so, are) = c.frames.invariant.so_far in
    let (both, unprinted) = subst (λ (o : Option Compared). ComparesNext c.frames.comparer.form c.frames.comparer.rows (c.frames.counts.frames + 1) (feeds (g.R.CountedRead.remaining c.frames.certificates) (g.R.CountedRead.remaining c.frames.words))
    (feeds (g.R.CountedRead.remaining c.compare_next.new.certificates) (g.R.CountedRead.remaining c.compare_next.new.words)) (g.O.CountedWrite.contents c.frames.out) (g.O.CountedWrite.contents c.compare_next.new.out) (Ok o)) c.in-None.is c.in_ok-compare_next.ensures.compares in
    ends_well c.args.comparer.now.form c.args.comparer.now.rows _ _ _ frames _ _ _ c.frames.counts c.exit.result _ so are both unprinted c.exit.ensures
    (subst (λ (line : List ℕ). Appends (g.O.CountedWrite.contents c.compare_next.new.out) (g.O.CountedWrite.contents c.print_line.new.out) line) c.counts_line.ensures c.in_ok-print_line-in-None.ensures.bytes)

pub frames-preserved : goal.frames-preserved
frames-preserved g c =
    let (frames, size, so, are) = c.frames.invariant.so_far in
    let mid = feeds (g.R.CountedRead.remaining c.frames.certificates) (g.R.CountedRead.remaining c.frames.words) in
    let after = feeds (g.R.CountedRead.remaining c.compare_next.new.certificates) (g.R.CountedRead.remaining c.compare_next.new.words) in
    let next = subst (λ (o : Option Compared). ComparesNext c.frames.comparer.form c.frames.comparer.rows (c.frames.counts.frames + 1) mid after (g.O.CountedWrite.contents c.frames.out) (g.O.CountedWrite.contents c.compare_next.new.out) (Ok o)) c.in-Some.is c.in_ok-compare_next.ensures.compares in
    let step = subst (λ (k : Comparing). ComparesNext k.form k.rows (c.frames.counts.frames + 1) mid after (g.O.CountedWrite.contents c.frames.out) (g.O.CountedWrite.contents c.compare_next.new.out) (Ok (Some c.in-Some.answer))) c.frames.invariant.same next in
    record {
      so_far = grows c.args.comparer.now.form c.args.comparer.now.rows _ mid after frames _ _ _ c.in-Some.answer c.frames.counts c.with-counts.result (c.frames.counts.frames + 1) c.frames._compared so size are refl step c.with-counts.ensures;
      same = c.in_ok-compare_next.ensures.same ∙ c.frames.invariant.same;
      certificate_reads = c.in_ok-compare_next.ensures.no_read (λ e. absurd (cc)) ∙ c.frames.invariant.certificate_reads;
      word_reads = c.in_ok-compare_next.ensures.no_other (λ e. absurd (cc)) ∙ c.frames.invariant.word_reads;
      writes = c.in_ok-compare_next.ensures.no_write (λ e. absurd (cc)) ∙ c.frames.invariant.writes;
    }
