use Rattle.merge_laws.proofs.Opening.{segment_openings_stay_exact}
use Rattle.merge_laws.proofs.countdowns.segment_openings_stay_exact.Goals as goal

pub returns : goal.returns
returns c = segment_openings_stay_exact
