use Rattle.std.proofs.Common.{true, false, ap, ◌∙◌}
use Rattle.s2_plframe.specs.Search.{decision}
use Rattle.s2_scan.proofs.Held.{one_held}
use Rattle.s2_scan.proofs.windows.with_symbol.Goals as goal

pub returns-clause-big : goal.returns-clause-big
returns-clause-big c =
    one_held false c.args.bytes.now c.args.k c.args.orders.big.odd c.args.orders.big.even c.with.result.odd c.with.result.even
    c.requires.big (c.with.ensures.newest ∙ ap decision c.symbol_in.ensures) c.with.ensures.others

pub returns-clause-little : goal.returns-clause-little
returns-clause-little c =
    one_held true c.args.bytes.now c.args.k c.args.orders.little.odd c.args.orders.little.even c.with-2.result.odd c.with-2.result.even
    c.requires.little (c.with-2.ensures.newest ∙ ap decision c.symbol_in-2.ensures) c.with-2.ensures.others
