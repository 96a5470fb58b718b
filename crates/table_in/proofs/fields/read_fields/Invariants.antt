use Rattle.std.proofs.Common.{◌≡◌, length, map, take, true}
use Rattle.csv.specs.Records.{fields_of}
use Rattle.table_in.specs.Columns.{value_of}
use Rattle.table_in.specs.Rows.{all_numbers}
use Rattle.table_in.proofs.fields.read_fields.Given as goal

abbrev pub invariant-loop-i : goal.invariant-loop-i
invariant-loop-i l = record {
  held : map value_of (take l.i (fields_of l.fields)) ≡ take l.i l.values;
  numbers : all_numbers (take l.i (fields_of l.fields)) ≡ true;
  size : length l.values ≡ length l.initial.values;
}
