use Rattle.s2_commands.proofs.Names.{rules, inl, ends_of, written_by}
use Rattle.s2_commands.proofs.seeds.sum_seeds.Goals as goal

pub returns-in-Ok-clause-hears : goal.returns-in-Ok-clause-hears
returns-in-Ok-clause-hears g c =
    let between = written_by g.W.CountedWrite.contents g.W.Counted.count g.O.CountedWrite.contents g.O.Counted.count c.receive_seeds.new.packets c.receive_seeds.new.out in
    inl (ends_of between c.receive_seeds.new.sinks, c.in_ok-sum.sum, c.in_ok-sum.ensures.hears, search rules)

pub returns-clause-hears : goal.returns-clause-hears
returns-clause-hears g c =
    let between = written_by g.W.CountedWrite.contents g.W.Counted.count g.O.CountedWrite.contents g.O.Counted.count c.receive_seeds.new.packets c.receive_seeds.new.out in
    inl (ends_of between c.receive_seeds.new.sinks, c.in_ok-sum.sum, c.in_ok-sum.ensures.hears, search rules)
