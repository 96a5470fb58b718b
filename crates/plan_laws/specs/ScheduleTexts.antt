-- The schedules of an accepted script, read from their text: what the language says of one that isn't refused.
use Rattle.std.specs.Prelude.{ℕ, ◌≡◌, take, Option, None, Some, slice_get}
use Rattle.frame_ast.specs.declared.script.NewJob.{NewJob}
use Rattle.frame_ast.specs.declared.script.Order.{Order}
use Rattle.frame_ast.specs.declared.script.Order.TheVariants as order
use Rattle.frame_ast.specs.declared.script.Script.{Script}
use Rattle.frame_ast.specs.declared.script.Statement.{Statement}
use Rattle.frame_ast.specs.Accepted.{IsAccepted}
use Rattle.frame_ast.specs.Checks.{refusal}
use Rattle.frame_ast.specs.Effects.{effect}
use Rattle.frame_ast.specs.Orders.{Table, Setting, setting}
use Rattle.frame_ast.specs.Scripts.{final}
use Rattle.frame_ast.specs.States.{ScriptState}
use Rattle.plan_laws.specs.Accepting.{Schedule, accepted, IsAcceptedSchedule}

-- what a schedule says
abbrev pub schedule_by : NewJob → Schedule
schedule_by job = record {
  auto = job.auto;
  handle = job.handle;
  kernel = job.kernel;
  args = job.args.items;
  cut = job.cut;
  defer = job.defer;
  waive = job.waive.items;
  after = job.after.items;
}

-- the schedule of a statement that is one
abbrev pub schedule_of : Order → Option Schedule
schedule_of (order.Schedule job) = Some (schedule_by job.value)
schedule_of _ = None

-- The statement does what an accepted schedule does, and the language accepts it as one.
pub record IsScheduleOf (g : Setting) (s : ScriptState) (x : Statement) (o : Schedule) : Type 0 where
  pub effect_is : effect g x.line s x.act ≡ accepted g s o
  pub is_accepted : IsAcceptedSchedule g s o

abbrev pub SchedulesAreAccepted : Type 0
SchedulesAreAccepted = (script : Script) → IsAccepted script → (table : Table) (n : ℕ) (x : Statement) (o : Schedule)
    → slice_get script.statements.items n ≡ Some x
    → schedule_of x.act ≡ Some o
    → let g = setting script table in
    let s = final g (take n script.statements.items) in
    refusal g s x.act ≡ None → IsScheduleOf g s x o
