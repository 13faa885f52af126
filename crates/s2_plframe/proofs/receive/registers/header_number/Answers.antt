use Rattle.std.proofs.Common.{arith}
use Rattle.s2_mode.specs.Mode.{mode_of}
use Rattle.s2_plframe.specs.Header.{header_bit}
use Rattle.s2_plframe.proofs.HeaderBits.{HoldsBits-none, HoldsBits-more, HoldsBits-whole}
use Rattle.s2_plframe.proofs.receive.registers.header_number.Goals as goal

pub loop-k-init : goal.loop-k-init
loop-k-init c = HoldsBits-none (header_bit (mode_of c.args.code.modcod c.args.code.short c.args.code.pilots))

pub loop-k-preserved : goal.loop-k-preserved
loop-k-preserved c =
    HoldsBits-more (header_bit (mode_of c.args.code.modcod c.args.code.short c.args.code.pilots)) c.loop-k.k c.loop-k.number c.pushed-number.result c.header_bit.result (omega arith) c.loop-k.invariant
    c.header_bit.ensures c.pushed-number.ensures.newest c.pushed-number.ensures.others c.pushed-number.ensures.is

pub returns : goal.returns
returns c = HoldsBits-whole (header_bit (mode_of c.args.code.modcod c.args.code.short c.args.code.pilots)) c.loop-k.k c.loop-k.number (omega arith) c.loop-k.invariant
