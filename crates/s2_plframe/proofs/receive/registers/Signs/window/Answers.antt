use Rattle.std.proofs.Common.{refl}
use Rattle.s2_plframe.proofs.Windows.{window_is}
use Rattle.s2_plframe.proofs.receive.registers.Signs.window.Goals as goal

pub returns : goal.returns
returns c = window_is c.args.self.odd c.args.self.even c.mixed.result 90 refl c.mixed.ensures.small c.mixed.ensures.bits
