use Rattle.merge_laws.proofs.Beginning.{begins_stay_exact}
use Rattle.merge_laws.proofs.countdowns.begins_stay_exact.Goals as goal

pub returns : goal.returns
returns c = begins_stay_exact
