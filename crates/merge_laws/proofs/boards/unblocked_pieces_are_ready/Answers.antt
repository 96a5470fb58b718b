use Rattle.merge_laws.proofs.Ruling.{unblocked_pieces_are_ready}
use Rattle.merge_laws.proofs.boards.unblocked_pieces_are_ready.Goals as goal

pub returns : goal.returns
returns c = unblocked_pieces_are_ready
