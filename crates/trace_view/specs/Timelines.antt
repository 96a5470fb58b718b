-- What is shown of a section's run on a timeline.
--
-- Decided here: which slices and which arrows it has. When something was, and which worker did it, isn't decided: that
-- is what was noted. How it is written is said in `trace_text`.
use Rattle.std.specs.Prelude.{◌≡◌, ℕ, List, length, map, Vec}
use Rattle.std.specs.declared.alloc.Global.{Global}
use Rattle.frame_ast.specs.declared.script.Script.{Script}
use Rattle.frame_core.specs.declared.plan.Plan.{Plan}
use Rattle.plan_waits.specs.declared.arrow.Arrow.{Arrow}
use Rattle.plan_waits.specs.Arrows.{AreArrows}
use Rattle.frame_view.specs.declared.story.Story.{Story}
use Rattle.trace_text.specs.declared.data.SectionTrace.{SectionTrace}
use Rattle.trace_view.specs.Shapes.{job_shape, job_shapes, segment_number, shown_numbers, arrow_shape, arrow_shapes}

-- The timeline of a section with this plan, of whose schedules a story is told.
pub record IsTimelineOf (script : Script) (plan : Plan) (story : Story) (s : SectionTrace) : Type 0 where
  -- each job once, in order, and of each job each piece once
  pub jobs : map job_shape s.jobs.items ≡ job_shapes script plan story 0 plan.jobs.items
  -- each segment once, where there are jobs
  pub segments : map segment_number s.segments.items ≡ shown_numbers plan.jobs.items (length plan.segments.items)
  -- an arrow for each wait that no others imply
  pub waits : List (Vec Arrow Global)
  pub are_arrows : AreArrows plan waits
  pub arrows : map arrow_shape s.arrows.items ≡ arrow_shapes 1 waits
