use Rattle.merge_laws.proofs.Reaching.{new_boards_are_ruled}
use Rattle.merge_laws.proofs.boards.new_boards_are_ruled.Goals as goal

pub returns : goal.returns
returns c = new_boards_are_ruled
