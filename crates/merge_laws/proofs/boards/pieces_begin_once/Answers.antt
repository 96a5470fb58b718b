use Rattle.merge_laws.proofs.Reaching.{pieces_begin_once}
use Rattle.merge_laws.proofs.boards.pieces_begin_once.Goals as goal

pub returns : goal.returns
returns c = pieces_begin_once
