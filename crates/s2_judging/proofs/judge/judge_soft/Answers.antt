use Rattle.std.proofs.Common.{sym}
use Rattle.s2_judging.specs.Files.{written}
use Rattle.s2_judging.proofs.CertifyLemmas.{told, in_part}
use Rattle.s2_judging.proofs.judge.judge_soft.Goals as goal

pub returns-in-Ok-decide_by-clause-answers : goal.returns-in-Ok-decide_by-clause-answers
returns-in-Ok-decide_by-clause-answers g c =
    let file = written g.C.CountedWrite.contents g.C.Counted.count in
    rw (sym c.deref.ensures.value) (told c.args.hard c.args.judged.now.matrix c.args.tuning c.deref.result.now (file c.args.certificate.now) (file c.decide_by.new.certificate) c.in-Ok.judge.tuning c.in-Ok-decide_by.printed
    c.in-Ok.ensures.tuning c.in-Ok-decide_by.ensures.says c.in-Ok-decide_by.ensures.shown c.in-Ok-decide_by.ensures.whole)

pub returns-clause-leaves : goal.returns-clause-leaves
returns-clause-leaves g c =
    let file = written g.C.CountedWrite.contents g.C.Counted.count in
    rw (sym c.deref.ensures.value) (in_part c.args.hard c.args.judged.now.matrix c.args.tuning c.deref.result.now (file c.args.certificate.now) (file c.decide_by.new.certificate) c.in-Ok.judge.tuning
    c.in-Ok.ensures.tuning c.in-Err.ensures.shown c.in-Err.ensures.part)
