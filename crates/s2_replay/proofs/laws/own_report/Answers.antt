use Rattle.s2_replay.proofs.OwnReports.{own_report}
use Rattle.s2_replay.proofs.laws.own_report.Goals as goal

pub returns : goal.returns
returns c = own_report
