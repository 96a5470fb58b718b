-- Jobs that become completed, in the code's terms.
use Rattle.std.specs.Prelude.{ℕ, ◌+◌, ◌-◌, ◌≡◌, ◌<◌, ◌≤◌, true, ◌&&◌, not, List}
use Rattle.job_base.specs.declared.JobId.{JobId}
use Rattle.frame_ast.specs.Jobs.{Jobs, Book, ancestors_in, with_completed}
use Rattle.job_handle.specs.Books.{StandsFor, count_of}
use Rattle.slot_store.specs.Stores.{place_of, peak_of, slots_in_use, settled}
use Rattle.plan_state.specs.declared.answer.Answer.{Answer}
use Rattle.plan_state.specs.declared.answer.Answer.TheVariants.{Nothing, Waits}
use Rattle.plan_state.specs.declared.state.World.{World}
use Rattle.plan_state.specs.Growth.{rising_jobs}

-- the jobs of a set that aren't completed, by their numbers after the first ones
abbrev pub newly_of : Book → ℕ → Jobs → Jobs
newly_of b before all j = all (before + j) && not (b.completed (before + j))

-- Some jobs are those of a set that aren't completed, in every book that the world's stands for.
abbrev pub AreNotCompleted : World → Jobs → List JobId → Type 0
AreNotCompleted w all ids = (b : Book)
    → StandsFor w.jobs b
    → ids ≡ rising_jobs (newly_of b w.jobs_before all) (count_of w.jobs - w.jobs_before)

-- The jobs of a set are completed: those of this section, as all of the sections before are.
abbrev pub AreEnded : World → Jobs → Type 0
AreEnded w handle = (b : Book)
    → StandsFor w.jobs b
    → (j : ℕ)
    → w.jobs_before < j
    → j ≤ count_of w.jobs
    → handle j ≡ true
    → b.completed j ≡ true

-- Jobs are completed with their ancestors, these of them newly. What is held for completed jobs alone comes back.
pub record AreCompleted (old new : World) (handle : Jobs) (newly : List JobId) : Type 0 where
  pub newly_are : (b : Book) → StandsFor old.jobs b → newly
      ≡ rising_jobs (newly_of b old.jobs_before (ancestors_in b handle)) (count_of old.jobs - old.jobs_before)
  pub jobs : (b : Book) → StandsFor old.jobs b → StandsFor new.jobs (with_completed b handle)
  pub places : (b : Book) → StandsFor new.jobs b → (k : ℕ)
      → place_of new.store k ≡ settled b (place_of old.store k)
  pub used : slots_in_use new.store ≤ slots_in_use old.store
  pub peak : peak_of new.store ≡ peak_of old.store
  pub rest : new ≡ record old { jobs = new.jobs; store = new.store }

-- An answer is what completing some jobs leaves to do: to wait for those that weren't completed, or nothing where all
-- were.
abbrev pub IsCompletion : World → World → Jobs → Answer → Type 0
IsCompletion old new handle Nothing = AreEnded old handle × (new ≡ old)
IsCompletion old new handle (Waits newly) = AreCompleted old new handle newly.items
IsCompletion old new handle _ = ⊥
