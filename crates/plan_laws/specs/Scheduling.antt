-- A job that the segment at hand starts, whatever its kernel and its arguments are: the plan goes on.
use Rattle.std.specs.Prelude.{ℕ, suc, ◌≡◌, ◌<◌, ◌^◌, Bool, List, [], ◌∷◌, ◌++◌, length, map, Some}
use Rattle.job_base.specs.declared.Trap.{Trap}
use Rattle.frame_ast.specs.declared.kernel.Kernel.{Kernel}
use Rattle.frame_ast.specs.Checked.{IsChecked}
use Rattle.frame_ast.specs.Contents.{Contents}
use Rattle.frame_ast.specs.Jobs.{Jobs}
use Rattle.frame_ast.specs.Laws.{IsKnown}
use Rattle.frame_ast.specs.States.{ScriptState, JobTrap}
use Rattle.kernel_exec.specs.Layout.{StandFor}
use Rattle.merge_laws.specs.Graph.{Cells}
use Rattle.frame_core.specs.declared.plan.JobPlan.{JobPlan}
use Rattle.frame_core.specs.declared.plan.Segment.{Segment}
use Rattle.frame_core.specs.Names.{kernel_of, pieces_before}
use Rattle.frame_core.specs.Names as names
use Rattle.frame_core.specs.Ordered.{JobFits}
use Rattle.frame_core.specs.Output.{job_trap}
use Rattle.plan_laws.specs.Drafts.{Draft, parts, parts_traps, pieces_of, cells_past}
use Rattle.plan_laws.specs.Enrolling.{IsEnrolled}
use Rattle.plan_laws.specs.Leaving.{AllHeld}
use Rattle.plan_laws.specs.Planned.{Outline, IsPlanned, Closes}

abbrev pub script_trap : ℕ → ℕ × Trap → JobTrap
script_trap j t = record { job = j; index = t.0; trap = t.1 }

-- the cells after the first pieces of the next job
abbrev pub cells_with : Outline → Draft → ℕ → Cells
cells_with x d i = cells_past x.plan (parts x.plan (length d.jobs) i ++ pieces_of x.plan d)

-- What is known of the job and of the state after its schedule: its pieces are enrolled, words stand for contents
-- before each piece and after all of them, and the traps are those of the script.
pub record IsStarted (x : Outline) (s t : ScriptState) (d : Draft) (job : JobPlan) (k : Kernel)
    (given writable : ℕ → Bool) (deps : Jobs) (traps : List (ℕ × Trap)) : Type 0 where
  pub jobs_later : List JobPlan
  pub jobs_are : x.plan.jobs.items ≡ (d.jobs ++ job ∷ []) ++ jobs_later
  pub has_kernel : kernel_of x.plan job ≡ Some k
  pub checked : IsChecked k
  pub fits : JobFits x.plan job k
  pub first : job.first.0 ≡ pieces_before d.jobs (length d.jobs)
  pub enrolled : IsEnrolled x s t (length d.jobs) job given writable deps
  pub held : AllHeld x.starts t (cells_with x d (names.pieces_of job))
  pub stand : (i : ℕ) → i < names.pieces_of job
      → (contents : List Contents) × StandFor job.binds.items (cells_with x d i) contents
  pub traps_are : parts_traps x.plan (pieces_of x.plan d) (length d.jobs) (names.pieces_of job)
      ≡ map (job_trap (length d.jobs)) traps
  pub lines : t.lines ≡ s.lines
  pub refused : t.refused ≡ s.refused
  pub traps_more : t.traps ≡ s.traps ++ map (script_trap (suc s.book.count)) traps

abbrev pub StartedJobsArePlanned : Type 0
StartedJobsArePlanned = (x : Outline)
    → x.plan.cells < 2 ^ 32
    → (s t : ScriptState) (d e : Draft) (segment : Segment) (job : JobPlan) (k : Kernel) (given writable : ℕ → Bool)
    (deps : Jobs) (traps : List (ℕ × Trap))
    → IsKnown s
    → IsPlanned x s d
    → IsStarted x s t d job k given writable deps traps
    → segment.starts ≡ Some (record { 0 = suc (length d.jobs) })
    → Closes d e segment (job ∷ []) []
    → IsPlanned x t e
