use Rattle.std.proofs.Common.{ℕ, ◌≤◌, ◌-◌, List, length}
use Rattle.frame_ast.specs.States.{ScriptState}
use Rattle.frame_plan.specs.Runs.{HasGone, NoneActs}
use Rattle.plan_state.specs.Steps.{StandsAt}
use Rattle.plan_statements.specs.Tables.{columns_of}
use Rattle.frame_plan.proofs.planner.run.Given as goal

abbrev pub invariant-loop-at : goal.invariant-loop-at
invariant-loop-at l = record {
  rising : l.fn.from ≤ l.at;
  inside : l.at ≤ length l.script.statements.items;
  between : (begun : ScriptState) (found : List ℕ)
      → StandsAt l.fn.planner l.script (columns_of l.table) begun l.fn.from found
      → NoneActs l.script (columns_of l.table) l.fn.from l.at;
  gone : (begun : ScriptState) (found : List ℕ)
      → StandsAt l.fn.planner l.script (columns_of l.table) begun l.fn.from found
      → HasGone l.script (columns_of l.table) l.fn.planner l.planner begun l.fn.from found l.at;
}

abbrev pub decreases-loop-at : goal.decreases-loop-at
decreases-loop-at l = length l.script.statements.items - l.at
