use Rattle.merge_laws.proofs.Running.{ended_runs_are_in_script_order}
use Rattle.merge_laws.proofs.runs.ended_runs_are_in_script_order.Goals as goal

pub returns : goal.returns
returns c = ended_runs_are_in_script_order
