use Rattle.std.proofs.Common.{◌≡◌, ◌≤◌, ◌++◌, ◌∙◌, length, arith, sym, ap, subst, codes}
use Rattle.s2_report.specs.Entries.{IsReadAs}
use Rattle.s2_report.specs.declared.entry.Entry.TheVariants as entries
use Rattle.s2_report.specs.ReportLines.{delivered_words, end_line, frames_words, packets_words, sums_words}
use Rattle.s2_report.proofs.ReadBack.{end_back}
use Rattle.s2_report.proofs.Rooms.{pushed}
use Rattle.s2_report.proofs.lines.end_line.Goals as goal

pub returns-clause-read_back : goal.returns-clause-read_back
unfolding end_line
returns-clause-read_back c =
    let t = c.args.totals in
    let frames = c.push_frames.ensures.bytes ∙ ap (λ l. l ++ frames_words t) c.new-line.ensures in
    let delivered = c.push_delivered.ensures.bytes ∙ ap (λ l. l ++ delivered_words t) frames in
    let packets = c.push_packets.ensures.bytes ∙ ap (λ l. l ++ packets_words t) delivered in
    let sums = c.push_sums.ensures.bytes ∙ ap (λ l. l ++ sums_words t.sums) packets in
    let is : c.push.new.self ≡ end_line t = c.push.ensures ∙ ap (λ l. l ++ codes "\n") sums in
    let short : length c.push.new.self ≤ 640 =
    omega (arith, pushed c.push_sums.new.line c.push.new.self (codes "\n") c.push.ensures, c.push_sums.ensures.room, c.push_packets.ensures.room, c.push_delivered.ensures.room, c.push_frames.ensures.room, ap length c.new-line.ensures) in
    subst (λ l. IsReadAs l entries.Other) (sym is)
    (end_back t c.push_frames.ensures.line c.push_delivered.ensures.line c.push_packets.ensures.line c.push_sums.ensures.line (subst (λ l. length l ≤ 640) is short))
