use Rattle.merge_laws.proofs.Running.{ended_runs_agree}
use Rattle.merge_laws.proofs.runs.ended_runs_agree.Goals as goal

pub returns : goal.returns
returns c = ended_runs_agree
