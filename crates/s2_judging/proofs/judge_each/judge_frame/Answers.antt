use Rattle.std.proofs.Common.{refl}
use Rattle.s2_judging.specs.Files.{written}
use Rattle.s2_judging.proofs.JudgeEachLemmas.{cut_certificate, judges_one}
use Rattle.s2_judging.proofs.judge_each.judge_frame.Goals as goal

pub returns-in-Ok-clause-judges : goal.returns-in-Ok-clause-judges
returns-in-Ok-clause-judges g c =
    let file = written g.C.CountedWrite.contents g.C.Counted.count in
    judges_one c.args.hard c.args.matrix.now c.args.judge.now.tuning c.args.frame.now (file c.args.certificates.now) (file c.decide_by.new.certificate) (g.O.CountedWrite.contents c.args.out.now) (g.O.CountedWrite.contents c.print_ran.new.out)
    c.in-Ok.printed.exit c.in-Ok.printed.text c.print_ran.result c.in-Ok.ensures.shown c.in-Ok.ensures.says c.in-Ok.ensures.whole c.print_ran.ensures.prints c.print_ran.ensures.looks

pub returns-in-Err-clause-judges : goal.returns-in-Err-clause-judges
returns-in-Err-clause-judges g c =
    let file = written g.C.CountedWrite.contents g.C.Counted.count in
    cut_certificate c.args.hard c.args.matrix.now c.args.judge.now.tuning c.args.frame.now (file c.args.certificates.now) (file c.decide_by.new.certificate) (g.O.CountedWrite.contents c.args.out.now) (g.O.CountedWrite.contents c.args.out.now)
    c.in-Err.ensures.shown c.in-Err.ensures.said c.in-Err.ensures.part refl
