-- Rows that are refused.
use Rattle.std.proofs.Common.{ℕ, List, Option, None, Some, Err, refl}
use Rattle.std.specs.Prelude.{IfSome}
use Rattle.s2_mode.specs.Shape.{Shape}
use Rattle.s2_rows.specs.Rows.{Rows}
use Rattle.s2_io.specs.declared.exit.Exit.{Exit}
use Rattle.s2_io.specs.declared.fault.Fault.{Fault}
use Rattle.s2_io.specs.declared.fault.Fault.TheVariants as faults
use Rattle.s2_io.specs.Exits.{Follows, CommandAnswers}
use Rattle.s2_io.proofs.CommandLemmas.{refuses}
use Rattle.s2_inputs.specs.Inputs.{rows_in}
use Rattle.s2_table.specs.Tables.{AreRowsIn}

-- a fault says of itself what it says
itself : (f : Fault) → Follows {V = Rows} {T = Rows} (λ r. r) (Err f) (Err f)
itself faults.Read = tt
itself faults.Write = tt
itself faults.NoMemory = tt
itself (faults.Open name) = refl
itself (faults.UsedTwice name) = refl
itself faults.TooLong = refl
itself (faults.Rows text) = refl
itself (faults.Refused text) = refl

pub refused_rows : (Says : Rows → Exit → List ℕ → Type 0) (shape : Shape) (known : Option (List ℕ)) (f : Fault)
    → IfSome known (λ text. Follows {V = Rows} (λ r. r) (Err f) (rows_in shape text)) → CommandAnswers Says (AreRowsIn shape known) (Err f)
refused_rows Says shape None f h = refuses Says (AreRowsIn shape None) (λ (r : Rows). r) f (Err f) (λ e. tt) (itself f)
refused_rows Says shape (Some text) f h = refuses Says (AreRowsIn shape (Some text)) (λ (r : Rows). r) f (rows_in shape text) (λ e. e) h
