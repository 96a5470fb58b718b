use Rattle.frame_core.proofs.Reported.Tallies.{reports_tally}
use Rattle.frame_core.proofs.laws.reports_tally.Goals as goal

pub returns : goal.returns
returns c = reports_tally
