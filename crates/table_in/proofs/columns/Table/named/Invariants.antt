use Rattle.std.proofs.Common.{◌≡◌, take, []}
use Rattle.csv.specs.Records.{fields_of}
use Rattle.table_in.specs.Columns.{columns_from}
use Rattle.table_in.proofs.columns.Table.named.Given as goal

abbrev pub invariant-loop-i : goal.invariant-loop-i
invariant-loop-i l = l.table ≡ columns_from (take l.i (fields_of l.fields)) []
