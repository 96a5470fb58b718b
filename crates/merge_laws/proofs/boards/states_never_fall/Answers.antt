use Rattle.merge_laws.proofs.Reaching.{states_never_fall}
use Rattle.merge_laws.proofs.boards.states_never_fall.Goals as goal

pub returns : goal.returns
returns c = states_never_fall
