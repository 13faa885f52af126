use Rattle.s2_bbframe.proofs.RoundTrips.{round_trip}
use Rattle.s2_bbframe.proofs.laws.round_trip.Goals as goal

pub returns : goal.returns
returns c = round_trip
