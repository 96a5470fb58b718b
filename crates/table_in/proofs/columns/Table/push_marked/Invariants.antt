use Rattle.std.proofs.Common.{◌≡◌, length, take}
use Rattle.table_in.specs.Columns.{with_values}
use Rattle.table_in.specs.Plain.{marked}
use Rattle.table_in.proofs.columns.Table.push_marked.Given as goal

abbrev pub invariant-loop-i : goal.invariant-loop-i
invariant-loop-i l = record {
  columns : l.self ≡ with_values l.initial.self (marked (take l.i l.marks) (take l.i l.values));
  place : l.place ≡ length (marked (take l.i l.marks) (take l.i l.values));
}
