use Rattle.std.proofs.Common.{rules, arith, ◌≡◌, ◌∙◌, sym, ap, subst, refl, Some, None, []}
use Rattle.std.proofs.lemmas.Result.{err_from_is_err_and}
use Rattle.s2_judging.specs.Bytewise.{Spends, pending, IsReading}
use Rattle.s2_judging.proofs.FrameLemmas.{Reads-nil, Spends-refl, Spends-trans, Spends-end, and_more, more_as, none_as, takes_last, takes_refused, takes_unread, reading_ended, on_ok}
use Rattle.s2_judging.proofs.frames.read_frame.Goals as goal

pub chunks-init : goal.chunks-init
chunks-init g c = let cleared : c.clear.new.self.items ≡ [] = search rules in record {
  words = rw cleared (Reads-nil _);
  reading = c.requires.reading;
  spends = Spends-refl _ _;
  room = search rules;
  most = search rules;
  range = rw cleared (λ k d within. absurd (omega (arith, within)));
  buffer = refl;
  counts = refl;
}

pub returns-in_err-here-clause-takes : goal.returns-in_err-here-clause-takes
returns-in_err-here-clause-takes g c =
    let p = err_from_is_err_and c.from_residual.result c.from_residual.ensures.1 in
    rw (p.1, p.2) (takes_refused c.args.hard c.args.count c.args.reading.now.left c.chunks.reading c.chunks.buffer (pending c.args.hard c.args.reading.now c.args.buffer.now (g.R.CountedRead.remaining c.args.reader.now)) (pending c.args.hard c.chunks.reading c.chunks.buffer (g.R.CountedRead.remaining c.chunks.reader)) (g.R.CountedRead.remaining c.chunks.reader) (g.R.CountedRead.remaining c.args.reader.now) c.chunks.values.items c.add_buffered.new.values.items c.add_buffered.new.values.items c.in_err-here.field-0.0 c.chunks.invariant.words c.in_err-here.ensures.added)

pub returns-in_err-more-clause-takes : goal.returns-in_err-more-clause-takes
returns-in_err-more-clause-takes g c =
    let p = err_from_is_err_and c.from_residual-in_err-more.result c.from_residual-in_err-more.ensures.1 in
    rw (p.1, p.2) (takes_unread c.args.count c.args.reading.now.left c.chunks.reading.left c.in_ok-here.here c.chunks.buffer c.read_more.new.buffer (pending c.args.hard c.args.reading.now c.args.buffer.now (g.R.CountedRead.remaining c.args.reader.now)) (pending c.args.hard c.chunks.reading c.read_more.new.buffer (g.R.CountedRead.remaining c.read_more.new.reader)) (g.R.CountedRead.remaining c.args.reader.now) (g.R.CountedRead.remaining c.chunks.reader) (g.R.CountedRead.remaining c.read_more.new.reader) c.add_buffered.new.values.items c.in_err-more.field-0.0
    (sym c.in_ok-here.ensures.left) c.chunks.invariant.spends c.in_err-more.ensures.more)

pub returns-in-None-clause-takes : goal.returns-in-None-clause-takes
returns-in-None-clause-takes g c =
    let here = c.in_ok-here.here in
    let used = c.in_ok-here.ensures.all (search rules) in
    let none = none_as here here c.chunks.buffer c.read_more.new.buffer (g.R.CountedRead.remaining c.chunks.reader) (g.R.CountedRead.remaining c.read_more.new.reader) c.in_ok-more.more c.in-None.is c.in_ok-more.ensures.more in
    takes_last c.args.hard c.args.count here c.ended.result c.chunks.buffer c.read_more.new.buffer (pending c.args.hard c.args.reading.now c.args.buffer.now (g.R.CountedRead.remaining c.args.reader.now)) c.add_buffered.new.values.items c.end_frame.new.values.items c.args.reading.now.left (g.R.CountedRead.remaining c.args.reader.now)
    (g.R.CountedRead.remaining c.chunks.reader) (g.R.CountedRead.remaining c.read_more.new.reader) c.end_frame.result used
    (ap (λ r. r.at) c.ended.ensures ∙ used ∙ sym (ap (λ r. r.end) c.ended.ensures)) (ap (λ r. r.position.place) c.ended.ensures)
    (c.in_ok-here.ensures.added _ _ c.chunks.invariant.words) none.0 none.1 c.end_frame.ensures.ends

pub returns-in-None-clause-reading : goal.returns-in-None-clause-reading
returns-in-None-clause-reading g c = on_ok c.end_frame.result (IsReading c.ended.result c.read_more.new.buffer) (reading_ended c.in_ok-here.here c.ended.result c.chunks.buffer c.read_more.new.buffer c.ended.ensures c.in_ok-more.ensures.room c.in_ok-here.ensures.reading)

pub chunks-preserved : goal.chunks-preserved
chunks-preserved g c =
    let here = c.in_ok-here.here in
    let more = more_as here c.in-Some.next c.chunks.buffer c.read_more.new.buffer (g.R.CountedRead.remaining c.chunks.reader) (g.R.CountedRead.remaining c.read_more.new.reader) c.in_ok-more.more c.in-Some.is c.in_ok-more.ensures.more in
    record {
      words = and_more _ _ _ _ (c.in_ok-here.ensures.added _ _ c.chunks.invariant.words) (more.0 c.args.hard);
      reading = more.1;
      spends = Spends-trans _ _ _ _ _ _ c.chunks.invariant.spends (subst (λ left. Spends (g.R.CountedRead.remaining c.chunks.reader) left (g.R.CountedRead.remaining c.read_more.new.reader) c.in-Some.next.left) c.in_ok-here.ensures.left more.3);
      room = c.in_ok-here.ensures.room;
      most = c.in_ok-here.ensures.most;
      range = c.in_ok-here.ensures.range;
      buffer = c.in_ok-more.ensures.room ∙ c.chunks.invariant.buffer;
      counts = c.in_ok-more.ensures.no_other (λ e. absurd (cc)) ∙ c.chunks.invariant.counts;
    }
