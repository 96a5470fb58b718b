use Rattle.steal_pool.proofs.Joining.{reports_are_within}
use Rattle.steal_pool.proofs.laws.reports_are_within.Goals as goal

pub returns : goal.returns
returns c = reports_are_within
