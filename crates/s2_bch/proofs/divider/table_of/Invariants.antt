use Rattle.std.proofs.Common.{◌≡◌, length}
use Rattle.s2_bch.specs.Registers.{value_of}
use Rattle.s2_bch.proofs.TableFacts.{HasEntries}
use Rattle.s2_bch.proofs.divider.table_of.Given as goal

abbrev pub invariant-loop : goal.invariant-loop
invariant-loop l = record {
  size : length l.table.items ≡ l.counter;
  entries : HasEntries (value_of l.tail) l.table.items;
}
