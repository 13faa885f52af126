use Rattle.std.proofs.Common.{rules, refl, sym, subst, ℤ, List, [], ◌∷◌, Err, length, ◌≡◌, ◌∙◌}
use Rattle.std.proofs.lemmas.Result.{err_from_is_err_and}
use Rattle.s2_matrix.specs.Code.{code_of}
use Rattle.s2_judging.specs.Files.{written}
use Rattle.s2_judging.specs.Bytewise.{pending_in}
use Rattle.s2_judging.specs.JudgingEach.{JudgesOne}
use Rattle.s2_judging.proofs.FrameLemmas.{took_frame, took_none}
use Rattle.s2_judging.proofs.JudgeEachLemmas.{next_refused, next_cut, takes_moved, refused_values}
use Rattle.s2_judging.proofs.judge_each.judge_next.Goals as goal

pub returns-in_err-found-clause-judges : goal.returns-in_err-found-clause-judges
returns-in_err-found-clause-judges g c =
    let file = written g.C.CountedWrite.contents g.C.Counted.count in
    let out = g.O.CountedWrite.contents c.args.out.now in
    let f = c.in_err-found.field-0.0 in
    let n = (code_of c.args.matrix.now).bits in
    let left = c.args.frames.now.reading.left in
    let rest = g.R.CountedRead.remaining c.args.soft.now in
    let before = (pending_in c.args.frames.now (g.R.CountedRead.remaining c.args.soft.now)) in
    let after = (pending_in c.read.new.self (g.R.CountedRead.remaining c.read.new.reader)) in
    let p = err_from_is_err_and c.from_residual.result c.from_residual.ensures.1 in
    rw (p.1, p.2) (next_refused c.args.hard c.args.matrix.now c.args.judge.now.tuning before after rest left (file c.args.certificates.now) (file c.args.certificates.now) out out [] f
    (refused_values n left before after c.read.new.self.values.items [] rest f (takes_moved c.args.frames.now.count n left before after c.read.new.self.values.items rest (Err f) c.requires.count c.in_err-found.ensures.takes)) refl refl)

pub returns-then-not-found-clause-judges : goal.returns-then-not-found-clause-judges
returns-then-not-found-clause-judges g c =
    (took_none c.args.frames.now.count c.args.frames.now.reading.left (pending_in c.args.frames.now (g.R.CountedRead.remaining c.args.soft.now)) (pending_in c.read.new.self (g.R.CountedRead.remaining c.read.new.reader)) c.read.new.self.values.items (g.R.CountedRead.remaining c.args.soft.now) c.in_ok-found.found (search rules) c.in_ok-found.ensures.takes, refl, refl)

pub returns-in_err-ran-clause-judges : goal.returns-in_err-ran-clause-judges
returns-in_err-ran-clause-judges g c =
    let file = written g.C.CountedWrite.contents g.C.Counted.count in
    let before = (pending_in c.args.frames.now (g.R.CountedRead.remaining c.args.soft.now)) in
    let after = (pending_in c.read.new.self (g.R.CountedRead.remaining c.read.new.reader)) in
    let frame = c.read.new.self.values.items in
    let rest = g.R.CountedRead.remaining c.args.soft.now in
    let left = c.args.frames.now.reading.left in
    let p = err_from_is_err_and c.from_residual-in_err-ran.result c.from_residual-in_err-ran.ensures.1 in
    let long : length frame ≡ (code_of c.args.matrix.now).bits = search rules in
    rw (p.1, p.2) (next_cut c.args.hard c.args.matrix.now c.args.judge.now.tuning before after rest left (file c.args.certificates.now) (file c.judge_frame.new.certificates) (g.O.CountedWrite.contents c.args.out.now) (g.O.CountedWrite.contents c.judge_frame.new.out)
    frame c.in_err-ran.field-0.0 long (took_frame c.args.frames.now.count left before after frame rest c.in_ok-found.found (search rules) c.in_ok-found.ensures.takes) (subst (λ (values : List ℤ). JudgesOne c.args.hard c.args.matrix.now c.args.judge.now.tuning values (file c.args.certificates.now) (file c.judge_frame.new.certificates) (g.O.CountedWrite.contents c.args.out.now) (g.O.CountedWrite.contents c.judge_frame.new.out) (Err c.in_err-ran.field-0.0)) c.values.ensures c.in_err-ran.ensures.judges))

pub returns-clause-judges : goal.returns-clause-judges
returns-clause-judges g c =
    let before = (pending_in c.args.frames.now (g.R.CountedRead.remaining c.args.soft.now)) in
    let after = (pending_in c.read.new.self (g.R.CountedRead.remaining c.read.new.reader)) in
    let frame = c.read.new.self.values.items in
    record {
      frame = frame;
      long = search rules;
      read = took_frame c.args.frames.now.count c.args.frames.now.reading.left before after frame (g.R.CountedRead.remaining c.args.soft.now) c.in_ok-found.found (search rules) c.in_ok-found.ensures.takes;
      done = rw (sym c.values.ensures) c.in_ok-ran.ensures.judges;
    }
