use Rattle.std.proofs.Common.{◌≡◌, map, take}
use Rattle.frame_top.specs.Columns.{column_names}
use Rattle.frame_top.proofs.columns.column_names.Given as goal

abbrev pub invariant-loop-i : goal.invariant-loop-i
invariant-loop-i l = map (λ v. v.items) l.names.items ≡ column_names (take l.i l.script.statements.items)
