use Rattle.std.proofs.Common.{◌≡◌, ℕ, take}
use Rattle.job_handle.specs.Sets.{jobs_of}
use Rattle.plan_state.specs.Accesses.{jobs_by}
use Rattle.plan_state.proofs.state.World.set_to_jobs_of.Given as goal

abbrev pub invariant-loop-name : goal.invariant-loop-name
invariant-loop-name l = (j : ℕ) → jobs_of l.all j ≡ jobs_by l.self.handles.items l.self.values.items (take l.name-index l.names) j
