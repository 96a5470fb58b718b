use Rattle.frame_core.proofs.Reported.Rising.{traps_rise}
use Rattle.frame_core.proofs.laws.traps_rise.Goals as goal

pub returns : goal.returns
returns c = traps_rise
