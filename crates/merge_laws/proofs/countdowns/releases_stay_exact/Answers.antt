use Rattle.merge_laws.proofs.Counting.{releases_stay_exact}
use Rattle.merge_laws.proofs.countdowns.releases_stay_exact.Goals as goal

pub returns : goal.returns
returns c = releases_stay_exact
