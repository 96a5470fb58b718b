use Rattle.plan_laws.proofs.Ending.{lines_are_reported}
use Rattle.plan_laws.proofs.laws.lines_are_reported.Goals as goal

pub returns : goal.returns
returns c = lines_are_reported
