-- A planner that took the answer of an accepted schedule: the books have its job, and the segment at hand started it.
use Rattle.std.proofs.Common.{◌≡◌, ℕ, Bool, List, refl, ap, subst, ◌∙◌}
use Rattle.job_base.specs.declared.Refusal.{Refusal}
use Rattle.frame_ast.specs.declared.script.Script.{Script}
use Rattle.frame_ast.specs.Jobs.{Jobs}
use Rattle.job_handle.specs.Books.{count_of}
use Rattle.frame_core.specs.declared.plan.Act.TheVariants.{Say}
use Rattle.frame_core.specs.declared.plan.JobPlan.{JobPlan}
use Rattle.plan_schedules.specs.declared.accepting.Run.{Run}
use Rattle.plan_schedules.specs.declared.uses.NamedUse.{NamedUse}
use Rattle.plan_schedules.specs.Starting.{AreLater, IsInBooks, IsStartOf}
use Rattle.plan_state.specs.declared.start.JobAnswer.{JobAnswer}
use Rattle.plan_state.specs.declared.start.JobAnswer.TheVariants.{Refused}
use Rattle.plan_state.specs.declared.start.Start.{Start}
use Rattle.plan_state.specs.declared.state.Draft.{Draft}
use Rattle.plan_state.specs.declared.state.Planner.{Planner}
use Rattle.plan_state.specs.declared.state.World.{World}
use Rattle.plan_state.specs.Accesses.{IsPushed}
use Rattle.plan_state.specs.Starts.{HasCopyFor, HasJob, HasTakenJob, IsStarted, job_by}

-- what a job runs, with its kernel by the plan's
abbrev pub placed : Run → ℕ → Run
placed run place = record run { kernel = place }

-- A job is scheduled: the books have it, and the segment at hand starts it. Its kernel is one of the plan's already.
pub record IsScheduled (old new : Planner) (handle : ℕ) (run : Run) (uses : List NamedUse) (deps : Jobs) : Type 0 where
  pub books : IsInBooks old.world new.world handle uses deps
  -- what is planned
  pub job : JobPlan
  pub runs : job ≡ record {
    kernel = run.kernel;
    binds = run.binds;
    cut = run.cut;
    parallel = run.parallel;
    deps = job.deps;
    first = job.first;
  }
  pub later_are : AreLater old.world.jobs_before (count_of old.world.jobs) deps job.deps.items
  pub first : job.first.0 ≡ old.draft.pieces
  pub started : IsStarted old.draft new.draft job

-- what was said of the world and of the draft is so of the planner
module _ (script : Script) (line : ℕ) (p : Planner) (w : World) (draft : Draft) (handle : ℕ) (run : Run) (uses : List NamedUse) (deps : Jobs)
    (answer : JobAnswer) (books : IsInBooks p.world w handle uses deps) (starts : IsStartOf p.world run deps answer)
    (took : HasTakenJob p.draft draft script line answer) where
  pub has_job : HasJob p.draft draft script starts.start
  has_job = subst (HasTakenJob p.draft draft script line) starts.is took

  pub is_scheduled : IsScheduled (record p { draft = has_job.copied }) (record { world = w; draft = draft }) handle (placed run has_job.place) uses deps
  is_scheduled = record {
    books = books;
    job = job_by starts.start has_job.place has_job.copied.pieces;
    runs = λ i. record {
      kernel = has_job.place;
      binds = (starts.runs i).binds;
      cut = (starts.runs i).cut;
      parallel = (starts.runs i).parallel;
      deps = starts.start.deps;
      first = record { 0 = has_job.copied.pieces };
    };
    later_are = starts.later_are;
    first = refl;
    started = has_job.started;
  }

  -- it runs this copy of its kernel
  pub has_copy : (guarded : Bool) (kernel : ℕ) → run.guarded ≡ guarded → run.kernel ≡ kernel
      → HasCopyFor guarded script p.draft has_job.copied kernel has_job.place
  has_copy guarded kernel b k =
      subst (λ g. HasCopyFor g script p.draft has_job.copied kernel has_job.place) (ap (λ (t : Start). t.guarded) starts.runs ∙ b)
      (subst (λ k. HasCopyFor starts.start.guarded script p.draft has_job.copied k has_job.place) (ap (λ (t : Start). t.kernel) starts.runs ∙ k) has_job.copy)

-- A refusal that it took was pushed.
pub is_pushed : (script : Script) (line : ℕ) (p : Planner) (draft : Draft) (answer : JobAnswer) (name : ℕ) (cause : Refusal)
    → answer ≡ Refused name cause → HasTakenJob p.draft draft script line answer
    → IsPushed p (record p { draft = draft }) (record { line = line; name = name; act = Say cause })
is_pushed script line p draft answer name cause is took =
    let op = subst (HasTakenJob p.draft draft script line) is took in
    record { ops = op.ops; rest = ap (λ (d : Draft). record p { draft = d }) op.rest }
