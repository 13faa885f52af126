use Rattle.s2_mode.proofs.SymbolsBack.{symbols_back}
use Rattle.s2_mode.proofs.laws.symbols_back.Goals as goal

pub returns : goal.returns
returns c = symbols_back
