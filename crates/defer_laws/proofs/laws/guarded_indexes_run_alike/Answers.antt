use Rattle.defer_laws.proofs.GuardedRuns.{guarded_indexes_run_alike}
use Rattle.defer_laws.proofs.laws.guarded_indexes_run_alike.Goals as goal

pub returns : goal.returns
returns c = guarded_indexes_run_alike
