use Rattle.plan_laws.proofs.Schedules.Leaving.{left_contents_are_held}
use Rattle.plan_laws.proofs.laws.left_contents_are_held.Goals as goal

pub returns : goal.returns
returns c = left_contents_are_held
