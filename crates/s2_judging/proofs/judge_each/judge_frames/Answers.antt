use Rattle.std.proofs.Common.{rules, refl, sym, ◌∙◌, ap, subst, arith, Ok, Err}
use Rattle.std.proofs.lemmas.Result.{err_from_is_err_and}
use Rattle.s2_judging.specs.Files.{written}
use Rattle.s2_judging.specs.Bytewise.{pending_in}
use Rattle.s2_judging.proofs.FrameLemmas.{Spends-refl, Spends-trans}
use Rattle.s2_judging.proofs.JudgeEachLemmas.{starts, grows, finishes, stops, full, next_moved}
use Rattle.s2_judging.proofs.judge_each.judge_frames.Goals as goal

pub frames-init : goal.frames-init
frames-init g c = record {
  so_far = starts c.args.hard _ _ _ _ _;
  spends = Spends-refl _ _;
  rows = c.requires.rows;
  tuning = refl;
  is = c.requires.is;
  count = c.requires.count;
  reads = refl;
  failed = refl;
  prints = refl;
}

pub returns-in_err-next-clause-judges : goal.returns-in_err-next-clause-judges
returns-in_err-next-clause-judges g c = λ known spent.
    let file = written g.C.CountedWrite.contents g.C.Counted.count in
    let rows = c.args.matrix.now in
    let asked = c.args.judge.now.tuning in
    let words = pending_in c.args.frames.now (g.R.CountedRead.remaining c.args.soft.now) in
    let rest = g.R.CountedRead.remaining c.frames.soft in
    let before = pending_in c.frames.frames rest in
    let after = pending_in c.judge_next.new.frames (g.R.CountedRead.remaining c.judge_next.new.soft) in
    let left = c.frames.frames.reading.left in
    let start = file c.args.certificates.now in
    let mid = file c.frames.certificates in
    let last = file c.judge_next.new.certificates in
    let old = g.O.CountedWrite.contents c.args.out.now in
    let out = g.O.CountedWrite.contents c.frames.out in
    let new = g.O.CountedWrite.contents c.judge_next.new.out in
    let f = c.in_err-next.field-0.0 in
    let p = err_from_is_err_and c.from_residual.result c.from_residual.ensures.1 in
    rw (p.1, p.2) (stops c.args.hard rows asked known words before after c.frames.judged c.frames.exit c.frames.bits start mid last old out new (g.R.CountedRead.remaining c.args.soft.now) rest c.args.frames.now.reading.left left f
    c.frames.invariant.so_far spent c.frames.invariant.spends (next_moved c.args.hard rows c.frames.judge.tuning asked before after rest left mid last out new (Err f) c.frames.invariant.tuning c.in_err-next.ensures.judges))

pub returns-in-None-clause-judges : goal.returns-in-None-clause-judges
returns-in-None-clause-judges g c = λ known spent.
    let file = written g.C.CountedWrite.contents g.C.Counted.count in
    let rows = c.args.matrix.now in
    let asked = c.args.judge.now.tuning in
    let words = pending_in c.args.frames.now (g.R.CountedRead.remaining c.args.soft.now) in
    let rest = g.R.CountedRead.remaining c.frames.soft in
    let before = pending_in c.frames.frames rest in
    let after = pending_in c.judge_next.new.frames (g.R.CountedRead.remaining c.judge_next.new.soft) in
    let left = c.frames.frames.reading.left in
    let start = file c.args.certificates.now in
    let mid = file c.frames.certificates in
    let last = file c.judge_next.new.certificates in
    let old = g.O.CountedWrite.contents c.args.out.now in
    let out = g.O.CountedWrite.contents c.frames.out in
    let new = g.O.CountedWrite.contents c.judge_next.new.out in
    finishes c.args.hard rows asked known words before after c.frames.judged c.frames.exit c.frames.bits c.both-looks_hard.result start mid last (file c.finish.new.certificates) old out new rest left c.in_ok-next.next c.finish.result
    c.frames.invariant.so_far c.in-None.is (next_moved c.args.hard rows c.frames.judge.tuning asked before after rest left mid last out new (Ok c.in_ok-next.next) c.frames.invariant.tuning c.in_ok-next.ensures.judges) c.both-looks_hard.ensures c.finish.ensures.begun

pub frames-preserved : goal.frames-preserved
frames-preserved g c =
    let file = written g.C.CountedWrite.contents g.C.Counted.count in
    let rows = c.args.matrix.now in
    let asked = c.args.judge.now.tuning in
    let words = pending_in c.args.frames.now (g.R.CountedRead.remaining c.args.soft.now) in
    let rest = g.R.CountedRead.remaining c.frames.soft in
    let before = pending_in c.frames.frames rest in
    let after = pending_in c.judge_next.new.frames (g.R.CountedRead.remaining c.judge_next.new.soft) in
    let left = c.frames.frames.reading.left in
    let start = file c.args.certificates.now in
    let mid = file c.frames.certificates in
    let last = file c.judge_next.new.certificates in
    let old = g.O.CountedWrite.contents c.args.out.now in
    let out = g.O.CountedWrite.contents c.frames.out in
    let new = g.O.CountedWrite.contents c.judge_next.new.out in
    record {
      so_far = grows c.args.hard rows asked words before after c.frames.judged c.frames.exit c.worse-exit.result c.frames.bits c.both-bits.result start mid last old out new rest left c.in_ok-next.next c.in-Some.ran
          c.frames.invariant.so_far c.in-Some.is (next_moved c.args.hard rows c.frames.judge.tuning asked before after rest left mid last out new (Ok c.in_ok-next.next) c.frames.invariant.tuning c.in_ok-next.ensures.judges) c.worse-exit.ensures c.both-bits.ensures;
      spends = Spends-trans _ _ _ _ _ _ c.frames.invariant.spends c.in_ok-next.ensures.spends;
      rows = c.in_ok-next.ensures.same.0 ∙ c.frames.invariant.rows;
      tuning = c.in_ok-next.ensures.same.1 ∙ c.frames.invariant.tuning;
      is = c.in_ok-next.ensures.is;
      count = c.in_ok-next.ensures.count ∙ c.frames.invariant.count;
      reads = c.in_ok-next.ensures.no_read (λ e. absurd (cc)) ∙ c.frames.invariant.reads;
      failed = (c.in_ok-next.ensures.no_write (λ e. absurd (cc))).0 ∙ c.frames.invariant.failed;
      prints = (c.in_ok-next.ensures.no_write (λ e. absurd (cc))).1 ∙ c.frames.invariant.prints;
    }

pub returns-clause-judges : goal.returns-clause-judges
returns-clause-judges g c = λ known spent.
    let file = written g.C.CountedWrite.contents g.C.Counted.count in
    full c.args.hard c.args.matrix.now c.args.judge.now.tuning known (pending_in c.args.frames.now (g.R.CountedRead.remaining c.args.soft.now)) (pending_in c.frames.frames (g.R.CountedRead.remaining c.frames.soft)) c.frames.judged c.frames.exit c.frames.bits
    (file c.args.certificates.now) (file c.frames.certificates) (g.O.CountedWrite.contents c.args.out.now) (g.O.CountedWrite.contents c.frames.out) c.frames.invariant.so_far (omega (arith, c.frames-test.false, c.frames.auto.judged-end))
