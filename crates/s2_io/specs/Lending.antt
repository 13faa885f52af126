-- An output after its writer was lent (own).
use Rattle.std.specs.Borrow.{Fml, RattleType, MutBor, Lends}
use Rattle.s2_io.specs.declared.output.Destination.{Destination}
use Rattle.s2_io.specs.contracts.output.Destination.{the_row}

-- after the writer of an output was lent, the output has the writer that the borrower left
abbrev pub LendsWriter : (W : RattleType) → MutBor (Destination W.Denot) → MutBor W.Denot → Fml
LendsWriter W d r = Lends (the_row W) W d r (λ w. record d.now { to = w })
