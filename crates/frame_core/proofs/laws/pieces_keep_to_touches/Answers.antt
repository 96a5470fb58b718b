use Rattle.frame_core.proofs.Planned.{pieces_keep_to_touches}
use Rattle.frame_core.proofs.laws.pieces_keep_to_touches.Goals as goal

pub returns : goal.returns
returns c = pieces_keep_to_touches
