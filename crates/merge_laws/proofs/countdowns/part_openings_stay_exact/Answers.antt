use Rattle.merge_laws.proofs.Opening.{part_openings_stay_exact}
use Rattle.merge_laws.proofs.countdowns.part_openings_stay_exact.Goals as goal

pub returns : goal.returns
returns c = part_openings_stay_exact
