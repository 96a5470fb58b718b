use Rattle.plan_laws.proofs.Schedules.Running.{pieces_run_as_one}
use Rattle.plan_laws.proofs.laws.pieces_run_as_one.Goals as goal

pub returns : goal.returns
returns c = pieces_run_as_one
