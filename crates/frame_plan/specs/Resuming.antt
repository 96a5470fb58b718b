-- A planner takes up a section after a test.
use Rattle.std.specs.Prelude.{◌≡◌, ℤ, List}
use Rattle.job_base.specs.Cells.{cells_of, cell_list}
use Rattle.job_handle.specs.Books.{count_of}
use Rattle.slot_store.specs.Stores.{peak_of}
use Rattle.plan_state.specs.declared.state.Planner.{Planner}

-- Its plan finds in the words so far what a memory has there. The jobs so far are those of earlier sections. All else
-- is as it was.
pub record IsResumed (old new : Planner) (mem : List ℤ) : Type 0 where
  pub first : new.draft.first.items ≡ cell_list (cells_of mem) 0 (peak_of old.world.store)
  pub before : new.world.jobs_before ≡ count_of old.world.jobs
  pub rest : new ≡ record old {
    world = record old.world { jobs_before = new.world.jobs_before };
    draft = record old.draft { first = new.draft.first };
  }
