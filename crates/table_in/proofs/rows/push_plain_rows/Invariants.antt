use Rattle.std.proofs.Common.{◌≡◌, length}
use Rattle.table_in.specs.Plain.{RowsAt}
use Rattle.table_in.proofs.rows.push_plain_rows.Given as goal

abbrev pub invariant-loop-row : goal.invariant-loop-row
invariant-loop-row l = record {
  rows : RowsAt l.text l.from l.marks l.initial.table l.table l.at l.row;
  width : length l.values ≡ length l.marks;
}
