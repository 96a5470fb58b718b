use Rattle.std.proofs.Common.{◌≡◌, map, take}
use Rattle.table_in.specs.Plain.{marks_of}
use Rattle.table_in.proofs.ColumnLemmas.{seen}
use Rattle.table_in.proofs.columns.Table.marks_of.Given as goal

abbrev pub invariant-loop-column : goal.invariant-loop-column
invariant-loop-column l =
    l.marks.items ≡ marks_of (map (λ v. v.items) l.asked) (map seen (take l.column-index l.column-items))
