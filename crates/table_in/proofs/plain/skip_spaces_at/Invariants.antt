use Rattle.std.proofs.Common.{◌-◌, length}
use Rattle.table_in.specs.Plain.{SpacesAt}
use Rattle.table_in.proofs.plain.skip_spaces_at.Given as goal

abbrev pub invariant-loop-end : goal.invariant-loop-end
invariant-loop-end l = SpacesAt l.text l.from l.end

abbrev pub decreases-loop-end : goal.decreases-loop-end
decreases-loop-end l = length l.text - l.end
