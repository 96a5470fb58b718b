-- A script begins with nothing planned, whatever the whole plan becomes.
use Rattle.std.specs.Prelude.{◌<◌, ◌≤◌, ◌^◌, length}
use Rattle.frame_ast.specs.Ranges.{Starts}
use Rattle.frame_ast.specs.States.{at_start}
use Rattle.frame_core.specs.declared.plan.Plan.{Plan}
use Rattle.plan_laws.specs.Drafts.{empty_draft}
use Rattle.plan_laws.specs.Planned.{IsPlanned}

abbrev pub NothingIsPlanned : Type 0
NothingIsPlanned = (plan : Plan) (starts : Starts)
    → plan.cells < 2 ^ 32
    → length plan.first.items ≤ plan.cells
    → IsPlanned (record { plan = plan; starts = starts; begun = at_start }) at_start empty_draft
