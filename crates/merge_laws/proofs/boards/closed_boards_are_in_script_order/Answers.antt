use Rattle.merge_laws.proofs.Ruling.{closed_boards_are_in_script_order}
use Rattle.merge_laws.proofs.boards.closed_boards_are_in_script_order.Goals as goal

pub returns : goal.returns
returns c = closed_boards_are_in_script_order
