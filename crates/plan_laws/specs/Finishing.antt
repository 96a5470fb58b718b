-- A draft that is finished: the segment at hand is closed, and a last one waits for every job.
use Rattle.std.specs.Prelude.{ℕ, ◌+◌, ◌≡◌, ◌<◌, ◌≤◌, ◌^◌, true, [], ◌∷◌, ◌++◌, length, map, None, Some, slice_get}
use Rattle.frame_ast.specs.declared.kernel.Kernel.{Kernel}
use Rattle.frame_ast.specs.Checked.{IsChecked}
use Rattle.frame_ast.specs.Laws.{IsKnown}
use Rattle.frame_ast.specs.States.{ScriptState}
use Rattle.frame_core.specs.declared.plan.Segment.{Segment}
use Rattle.frame_core.specs.Names.{has_job, job_pieces}
use Rattle.frame_core.specs.Graphs.{graph_of, cells_after}
use Rattle.frame_core.specs.Ordered.{IsSized, AreCodesOf, ConflictsLead, IsWellOrderedPlan}
use Rattle.frame_core.specs.Output.{plan_lines, plan_refused, plan_traps}
use Rattle.plan_laws.specs.Drafts.{Draft}
use Rattle.plan_laws.specs.Leaving.{AllHeld}
use Rattle.plan_laws.specs.Planned.{Outline, jobs_before, renumbered, AreJobsUpTo, IsPlanned}

pub record IsPlanFrom (x : Outline) (d : Draft) (last final : Segment) : Type 0 where
  pub jobs : x.plan.jobs.items ≡ d.jobs
  pub segments : x.plan.segments.items ≡ d.segments ++ last ∷ final ∷ []
  pub waits : last.waits.items ≡ d.waits
  pub ops : last.ops.items ≡ d.ops
  pub starts : last.starts ≡ None
  pub final_waits : (j : ℕ) → 0 < j → j ≤ length d.jobs → has_job final.waits.items j ≡ true
  pub final_known : AreJobsUpTo (length d.jobs) final.waits.items
  pub final_ops : final.ops.items ≡ []
  pub final_starts : final.starts ≡ None

-- The conflicts of the finished plan lead.
abbrev pub FinishedPlansAreOrdered : Type 0
FinishedPlansAreOrdered = (x : Outline) (s : ScriptState) (d : Draft) (last final : Segment)
    → x.plan.cells < 2 ^ 32
    → IsKnown s
    → IsPlanned x s d
    → IsPlanFrom x d last final
    → x.plan.words ≡ x.plan.cells + job_pieces x.plan
    → ConflictsLead (graph_of x.plan)

-- The finished plan is well ordered. Its run in script order gives the output of the script from where the section
-- began, and leaves the contents of the containers.
pub record IsDone (x : Outline) (s : ScriptState) : Type 0 where
  pub well_ordered : IsWellOrderedPlan x.plan
  pub lines : s.lines ≡ x.begun.lines ++ plan_lines x.plan
  pub refused : s.refused ≡ x.begun.refused + plan_refused x.plan
  pub traps : s.traps ≡ x.begun.traps ++ map (renumbered (jobs_before x)) (plan_traps x.plan)
  pub contents : AllHeld x.starts s (cells_after x.plan)

abbrev pub DraftsBecomePlans : Type 0
DraftsBecomePlans = (x : Outline) (s : ScriptState) (d : Draft) (last final : Segment)
    → IsKnown s
    → IsPlanned x s d
    → IsPlanFrom x d last final
    → IsSized x.plan
    → ((n : ℕ) (k : Kernel) → slice_get x.plan.kernels.items n ≡ Some k → IsChecked k)
    → AreCodesOf x.plan.kernels.items x.plan.codes.items
    → IsDone x s
