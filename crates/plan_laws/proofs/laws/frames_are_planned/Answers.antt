use Rattle.plan_laws.proofs.Statements.Frames.{frames_are_planned}
use Rattle.plan_laws.proofs.laws.frames_are_planned.Goals as goal

pub returns : goal.returns
returns c = frames_are_planned
