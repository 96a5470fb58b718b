use Rattle.std.proofs.Common.{◌≡◌, length}
use Rattle.table_in.proofs.ReadLemmas.{Along}
use Rattle.table_in.proofs.reading.push_rows.Given as goal

abbrev pub invariant-loop-row : goal.invariant-loop-row
invariant-loop-row l = record {
  along : Along l.reader l.text l.marks l.initial.table l.table l.first l.row;
  width : length l.values ≡ length l.marks;
}
