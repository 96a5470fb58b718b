use Rattle.frame_core.proofs.Framing.{parts_keep_to_touches}
use Rattle.frame_core.proofs.laws.parts_keep_to_touches.Goals as goal

pub returns : goal.returns
returns c = parts_keep_to_touches
