use Rattle.merge_laws.proofs.Reaching.{states_go_one_by_one}
use Rattle.merge_laws.proofs.boards.states_go_one_by_one.Goals as goal

pub returns : goal.returns
returns c = states_go_one_by_one
