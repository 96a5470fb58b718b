use Rattle.merge_laws.proofs.Ending.{segment_ends_stay_exact}
use Rattle.merge_laws.proofs.countdowns.segment_ends_stay_exact.Goals as goal

pub returns : goal.returns
returns c = segment_ends_stay_exact
