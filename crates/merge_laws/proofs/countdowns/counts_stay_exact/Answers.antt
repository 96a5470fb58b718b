use Rattle.merge_laws.proofs.Counting.{counts_stay_exact}
use Rattle.merge_laws.proofs.countdowns.counts_stay_exact.Goals as goal

pub returns : goal.returns
returns c = counts_stay_exact
