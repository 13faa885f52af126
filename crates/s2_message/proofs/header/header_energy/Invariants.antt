use Rattle.std.proofs.Common.{◌≡◌, ◌*◌, ◌^◌, ◌≤◌, take}
use Rattle.std.specs.List.{sum_by}
use Rattle.s2_message.specs.Header.{symbol_energy}
use Rattle.s2_message.proofs.header.header_energy.Given as goal

abbrev pub invariant-loop-k : goal.invariant-loop-k
invariant-loop-k l = record {
  is : l.energy ≡ sum_by symbol_energy (take l.k l.symbols);
  most : l.energy ≤ 2 ^ 31 * l.k;
}
