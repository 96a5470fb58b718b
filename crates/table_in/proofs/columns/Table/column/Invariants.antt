use Rattle.std.proofs.Common.{◌≡◌, map, drop}
use Rattle.table_in.specs.Columns.{column_named}
use Rattle.table_in.proofs.ColumnLemmas.{seen}
use Rattle.table_in.proofs.columns.Table.column.Given as goal

abbrev pub invariant-loop-column : goal.invariant-loop-column
invariant-loop-column l =
    column_named l.name (map seen (drop l.column-index l.column-items)) ≡ column_named l.name (map seen l.column-items)
