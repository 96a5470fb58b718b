use Rattle.merge_laws.proofs.Beginning.{looks_stay_exact}
use Rattle.merge_laws.proofs.countdowns.looks_stay_exact.Goals as goal

pub returns : goal.returns
returns c = looks_stay_exact
