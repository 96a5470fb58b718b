use Rattle.std.proofs.Common.{◌+◌}
use Rattle.table_in.specs.Plain.{DigitsAt}
use Rattle.table_in.proofs.plain.read_few_digits.Given as goal

abbrev pub invariant-loop-k : goal.invariant-loop-k
invariant-loop-k l = DigitsAt l.text l.from l.magnitude (l.from + l.k)
