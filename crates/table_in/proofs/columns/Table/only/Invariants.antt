use Rattle.std.proofs.Common.{◌≡◌, take}
use Rattle.table_in.specs.Plain.{marked}
use Rattle.table_in.proofs.columns.Table.only.Given as goal

abbrev pub invariant-loop-i : goal.invariant-loop-i
invariant-loop-i l = l.table ≡ marked (take l.i l.marks) (take l.i l.self)
