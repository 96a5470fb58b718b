use Rattle.frame_core.proofs.Planned.{predecessors_are_of_four_kinds}
use Rattle.frame_core.proofs.laws.predecessors_are_of_four_kinds.Goals as goal

pub returns : goal.returns
returns c = predecessors_are_of_four_kinds
