-- A script that was read, and for what a run of it isn't begun.
use Rattle.std.specs.Prelude.{◌≡◌, ◌⊎◌, false, None, Some, slice_get}
use Rattle.frame_ast.specs.declared.script.Script.{Script}
use Rattle.frame_ast.specs.declared.script.Statement.{Statement}
use Rattle.frame_ast.specs.Answers.{limit_line, no_column_line}
use Rattle.frame_ast.specs.Limits.{Limit, limit_of}
use Rattle.frame_ast.specs.Orders.{Table, setting}
use Rattle.plan_state.specs.declared.state.PlanFault.TheVariants.{NoMemory}
use Rattle.frame_plan.specs.Missing.{missing_from}
use Rattle.frame_plan.specs.Sections.{limit_told}
use Rattle.frame_top.specs.Refusals.{answer, column_name, frame_refusal}
use Rattle.frame_top.specs.declared.status.TheConstants.{PAST_LIMIT, TABLE_REFUSED}
use Rattle.frame_host.specs.declared.script.FrameScript.{FrameScript}
use Rattle.frame_host.specs.declared.frame.BeginFault.{BeginFault}
use Rattle.frame_host.specs.declared.frame.BeginFault.TheVariants.{NoColumn, Plan}

-- the script that was read
abbrev pub tree_of : FrameScript → Script
tree_of script = script.tree.value

-- The table lacks the column of that statement, and of none before it; or it lacks none, and a limit is passed, or
-- memory wasn't found.
abbrev pub IsBeginFault : Script → Table → BeginFault → Type 0
IsBeginFault script table (NoColumn statement) = missing_from table 0 script.statements.items ≡ Some statement
IsBeginFault script table (Plan fault) = (missing_from table 0 script.statements.items ≡ None)
    × ((fault ≡ NoMemory) ⊎ (limit_of (setting script table) script.statements.items ≡ limit_told fault))

-- It is what the program `frame_run` answers of them: the line of that column or of that limit, with its status.
abbrev pub IsRefusedAs : Script → Table → BeginFault → Type 0
IsRefusedAs script table (NoColumn statement) = (x : Statement)
    × (slice_get script.statements.items statement ≡ Some x)
    × (frame_refusal script table false ≡ Some (answer TABLE_REFUSED (no_column_line (column_name x.act))))
IsRefusedAs script table (Plan fault) = (fault ≡ NoMemory) ⊎ ((limit : Limit)
    × (limit_told fault ≡ Some limit)
    × (frame_refusal script table false ≡ Some (answer PAST_LIMIT (limit_line limit))))
