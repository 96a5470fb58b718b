use Rattle.plan_laws.proofs.Ending.{pieces_are_made}
use Rattle.plan_laws.proofs.laws.pieces_are_made.Goals as goal

pub returns : goal.returns
returns c = pieces_are_made
