use Rattle.s2_records.proofs.LawLemmas.{round_trip}
use Rattle.s2_records.proofs.laws.round_trip.Goals as goal

pub returns : goal.returns
returns c = round_trip
