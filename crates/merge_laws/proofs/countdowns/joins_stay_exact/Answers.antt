use Rattle.merge_laws.proofs.Joining.{joins_stay_exact}
use Rattle.merge_laws.proofs.countdowns.joins_stay_exact.Goals as goal

pub returns : goal.returns
returns c = joins_stay_exact
