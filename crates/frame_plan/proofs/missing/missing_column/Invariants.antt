use Rattle.std.proofs.Common.{◌≡◌, drop}
use Rattle.frame_plan.specs.Missing.{missing_from}
use Rattle.plan_statements.specs.Tables.{columns_of}
use Rattle.frame_plan.proofs.missing.missing_column.Given as goal

abbrev pub invariant-loop-i : goal.invariant-loop-i
invariant-loop-i l =
    missing_from (columns_of l.table) l.i (drop l.i l.script.statements.items)
    ≡ missing_from (columns_of l.table) 0 l.script.statements.items
