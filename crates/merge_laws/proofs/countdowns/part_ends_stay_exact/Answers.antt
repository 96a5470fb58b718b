use Rattle.merge_laws.proofs.Ending.{part_ends_stay_exact}
use Rattle.merge_laws.proofs.countdowns.part_ends_stay_exact.Goals as goal

pub returns : goal.returns
returns c = part_ends_stay_exact
