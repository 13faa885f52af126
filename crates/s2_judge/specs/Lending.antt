-- Soft values lent to write to (own).
use Rattle.std.specs.Prelude.{List, [], ℤ, length, None}
use Rattle.std.specs.List.{refill}
use Rattle.std.specs.Borrow.{Lends, MutBor, Fml, Array, i16}
use mir.Syntax.{named}
use Rattle.s2_judge.specs.Judging.{Judging}
use Rattle.s2_judge.specs.contracts.judge.Judge.{the_row}

-- a judge with these soft values, and no certificate for its bits
abbrev pub with_soft : Judging → List ℤ → Judging
with_soft j written = record {
  rows = j.rows;
  tuning = j.tuning;
  soft = refill (length j.soft) j.soft written;
  bits = j.bits;
  certificate = None;
  rounds = j.rounds;
}

-- the judge then has the values that the borrower left in the slice
abbrev pub LendsSoft : MutBor Judging → MutBor (List ℤ) → Fml
LendsSoft j r = Lends (the_row (record { mir = named 1; lft = [] })) (Array i16 0) j r (with_soft j.now)
