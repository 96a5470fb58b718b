use Rattle.frame_core.proofs.Reported.Tallies.{refusals_are_few}
use Rattle.frame_core.proofs.laws.refusals_are_few.Goals as goal

pub returns : goal.returns
returns c = refusals_are_few
