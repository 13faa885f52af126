-- The sums over many receptions (own).
use Rattle.std.specs.Prelude.{true, ◌&&◌}
use Rattle.s2_report.specs.Figures.{no_totals, saturated, totals_sum}
use Rattle.s2_receive.specs.declared.report.Received.{Received}

-- what both receptions received
abbrev pub received_sum : Received → Received → Received
received_sum a b = record { totals = totals_sum a.totals b.totals; all_certified = a.all_certified && b.all_certified; symbols = saturated a.symbols b.symbols }

-- no reception
abbrev pub nothing_received : Received
nothing_received = record { totals = no_totals; all_certified = true; symbols = 0 }
