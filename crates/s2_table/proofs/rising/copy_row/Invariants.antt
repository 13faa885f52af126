use Rattle.std.proofs.Common.{◌≡◌, take}
use Rattle.s2_table.proofs.rising.copy_row.Given as goal

abbrev pub invariant-loop-address : goal.invariant-loop-address
invariant-loop-address l = l.copy.items ≡ take l.address-index l.row
