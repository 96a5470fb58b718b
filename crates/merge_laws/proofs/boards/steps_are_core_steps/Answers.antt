use Rattle.merge_laws.proofs.Reaching.{steps_are_core_steps}
use Rattle.merge_laws.proofs.boards.steps_are_core_steps.Goals as goal

pub returns : goal.returns
returns c = steps_are_core_steps
