use Rattle.std.proofs.Common.{◌-◌, length}
use Rattle.table_in.specs.Plain.{DigitsAt}
use Rattle.table_in.proofs.plain.read_more_digits.Given as goal

abbrev pub invariant-loop-end : goal.invariant-loop-end
invariant-loop-end l = DigitsAt l.text l.from l.magnitude l.end

abbrev pub decreases-loop-end : goal.decreases-loop-end
decreases-loop-end l = length l.text - l.end
