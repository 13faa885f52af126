use Rattle.std.proofs.Common.{◌≡◌, Ok, refl, rules, subst, sym}
use Rattle.s2_audit.specs.Differences.{ReadsLine}
use Rattle.s2_audit.specs.FrameAnswers.{terms_by}
use Rattle.s2_audit.specs.Turns.{ends_by}
use Rattle.s2_audit.proofs.TurnLemmas.{compared_turn, judged_by, same_by, same_terms}
use Rattle.s2_audit.proofs.turn.audit_next.Goals as goal

pub returns-clause-turns : goal.returns-clause-turns
returns-clause-turns g c =
    let ends = ends_by g.R.CountedRead.remaining in
    let old = ends c.args.symbols.now c.args.report.now c.args.certificates.now c.args.codewords.now c.args.packets.now in
    let mid = ends c.find.new.symbols c.read_line.new.report c.judge.new.certificates c.judge.new.codewords c.args.packets.now in
    let new = ends c.find.new.symbols c.read_line.new.report c.judge.new.certificates c.judge.new.codewords c.with_packets.new.packets in
    let t = terms_by c.args.auditor.now in
    let f = c.args.auditor.now.replayer.follower in
    let am = c.find.new.self in
    let an = c.judge.new.auditor in
    let by_found = same_by t f am.replayer.follower c.find.ensures.same.follower c.requires.by in
    let by = same_by t am.replayer.follower an.replayer.follower c.judge.ensures.same.follower by_found in
    let line_is : c.as_slice-line.result.now ≡ c.read_line.new.line.items = search rules in
    let reads = subst (λ l. ReadsLine c.args.place.line (g.R.CountedRead.remaining c.args.report.now) (g.R.CountedRead.remaining c.read_line.new.report) l (Ok c.in_ok-entry.entry)) (sym line_is) c.in_ok-entry.ensures.reads in
    let judged = judged_by t old mid f am an c.as_slice-line.result.now c.in_ok-entry.entry c.args.place c.in_ok-found.found (Ok c.in_ok-turn.turn)
    (same_terms _ _ _ _ c.find.ensures.rows c.find.ensures.same) by_found c.in_ok-found.ensures.closing c.in_ok-found.ensures.soft by refl c.in_ok-found.ensures.goes_on c.in_ok-found.ensures.found reads
    c.in_ok-turn.ensures.judges in
    compared_turn t old mid new f an.replayer.follower c.args.place c.in_ok-turn.turn c.with_packets.result refl refl refl refl judged (search rules)
