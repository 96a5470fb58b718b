-- What a planner does at a statement: it stood for the state of the script before it, and stands for the one after it.
use Rattle.std.specs.Prelude.{ℕ, suc, ◌≡◌, ◌<◌, List, ◌++◌, take, Some, slice_get}
use Rattle.job_base.specs.declared.limits.TheConstants.{MOST_JOBS, MOST_CREATED_WORDS}
use Rattle.frame_ast.specs.declared.script.Script.{Script}
use Rattle.frame_ast.specs.declared.script.Statement.{Statement}
use Rattle.frame_ast.specs.Accepted.{IsAccepted}
use Rattle.frame_ast.specs.Orders.{Table, setting}
use Rattle.frame_ast.specs.Ranges.{Starts}
use Rattle.frame_ast.specs.Scripts.{act, final}
use Rattle.frame_ast.specs.States.{ScriptState}
use Rattle.plan_state.specs.declared.state.PlanFault.{PlanFault}
use Rattle.plan_state.specs.declared.state.PlanFault.TheVariants.{Jobs, Words, NoMemory}
use Rattle.plan_state.specs.declared.state.Planner.{Planner}
use Rattle.plan_state.specs.Growth.{StartAs, Grows}
use Rattle.plan_state.specs.Stands.{Stands}

-- the state of a script after its first n statements
abbrev pub state_at : Script → Table → ℕ → ScriptState
state_at script table n = final (setting script table) (take n script.statements.items)

-- and the state after one statement more
abbrev pub state_after : Script → Table → ℕ → Statement → ScriptState
state_after script table n x = act (setting script table) (state_at script table n) x

-- The script is accepted, the statement is its n-th, and it isn't passed by.
pub record IsStep (script : Script) (table : Table) (n : ℕ) (x : Statement) : Type 0 where
  pub accepted : IsAccepted script
  pub here : slice_get script.statements.items n ≡ Some x
  pub acts : (state_at script table n).passing ≡ 0

-- The planner stands for the state after n statements of a script, in a section that began in another state.
abbrev pub StandsAt : Planner → Script → Table → ScriptState → ℕ → List ℕ → Type 0
StandsAt p script table begun n found = Stands p (setting script table) begun n (state_at script table n) found

-- WHAT A STATEMENT NEEDS, AND WHAT ITS ANSWER IS ABOUT

-- A planner stands before the statement, in this script with this table.
pub record IsBefore (script : Script) (table : Table) (p : Planner) (x : Statement) : Type 0 where
  pub begun : ScriptState
  pub n : ℕ
  pub found : List ℕ
  pub step : IsStep script table n x
  pub stands : StandsAt p script table begun n found

-- it does so in some script
abbrev pub IsReady : Planner → Statement → Type 0
IsReady p x = (script : Script) × (table : Table) × IsBefore script table p x

-- WHAT IT ANSWERS

-- Some more ranges were found: it stands for the state afterwards, and its plan grew by what the statement adds.
pub record HasStepped {script : Script} {table : Table} {old : Planner} {x : Statement}
    (b : IsBefore script table old x) (new : Planner) : Type 0 where
  pub more : List ℕ
  pub stands : Stands new (setting script table) b.begun (suc b.n) (state_after script table b.n x) (b.found ++ more)
  pub grows : (starts : Starts)
      → StartAs starts (b.found ++ more)
      → Grows (setting script table) (state_at script table b.n) x starts b.begun.book.count old new

-- A planner goes on by the statement, in whichever script it stands before it.
abbrev pub GoesOn : Planner → Planner → Statement → Type 0
GoesOn old new x = (script : Script) (table : Table) (b : IsBefore script table old x) → HasStepped b new

-- a fault other than want of memory comes where the state afterwards passes a limit
abbrev pub PassesLimit : PlanFault → ScriptState → Type 0
PassesLimit NoMemory after = Unit {0}
PassesLimit Jobs after = MOST_JOBS < after.book.count
PassesLimit Words after = MOST_CREATED_WORDS < after.created
