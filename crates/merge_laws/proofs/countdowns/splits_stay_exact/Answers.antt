use Rattle.merge_laws.proofs.Beginning.{splits_stay_exact}
use Rattle.merge_laws.proofs.countdowns.splits_stay_exact.Goals as goal

pub returns : goal.returns
returns c = splits_stay_exact
