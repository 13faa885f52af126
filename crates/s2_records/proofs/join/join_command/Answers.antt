use Rattle.std.proofs.Common.{None, sym, ap}
use Rattle.s2_io.specs.Screens.{Screen, screen_of}
use Rattle.s2_records.specs.Joining.{piped_by}
use Rattle.s2_records.proofs.KnownLemmas.{known}
use Rattle.s2_records.proofs.join.join_command.Goals as goal

pub returns-clause-known : goal.returns-clause-known
returns-clause-known g c = λ fine.
    let contents = g.O.CountedWrite.contents in
    let count = g.O.Counted.count in
    let ends = piped_by g.R.CountedRead.remaining g.R.Counted.count g.W.CountedWrite.contents g.W.Counted.count in
    let before : Screen = screen_of (contents c.console.inside.output) (count c.console.inside.output) None 0 in
    let after : Screen = screen_of (contents c.join_files-ended.new.out) (count c.join_files-ended.new.out) None 0 in
    known c.args.mode (ends c.args.bbframes.now c.args.packets.now.to) (ends c.join_files-ended.new.bbframes c.join_files-ended.new.packets.to)
    before after c.args.console.now c.finish.new.self (ap (λ (s : Screen). s.output) c.console.view_is) (sym c.finish.ensures.output)
    _ c.join_files-ended.result c.finish.result c.finish.ensures.exit fine c.join_files-ended.ensures.runs
