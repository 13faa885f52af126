use Rattle.s2_receive.proofs.Names.{◌-◌, ◌+◌, ◌/◌, length, arith}
use Rattle.s2_receive.proofs.FindSteps.{filled}
use Rattle.s2_receive.proofs.window.fill.Goals as goal

pub returns-clause-window : goal.returns-clause-window
returns-clause-window c =
    filled c.args.held.now (c.args.held.now.count + length c.args.bytes.now / 4 - c.args.held.now.count) c.args.buffer.now c.symbols_into.new.symbols c.args.bytes.now
    (omega (arith, c.requires.room)) c.symbols_into.ensures
