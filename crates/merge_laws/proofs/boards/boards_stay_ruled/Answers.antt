use Rattle.merge_laws.proofs.Reaching.{boards_stay_ruled}
use Rattle.merge_laws.proofs.boards.boards_stay_ruled.Goals as goal

pub returns : goal.returns
returns c = boards_stay_ruled
