use Rattle.std.proofs.Common.{◌≡◌, map, take}
use Rattle.job_handle.specs.Sets.{jobs_of}
use Rattle.plan_waits.specs.Marks.{arrow_of}
use Rattle.plan_waits.proofs.arrow.mark.Given as goal

abbrev pub invariant-loop-id : goal.invariant-loop-id
invariant-loop-id l = l.arrows.items ≡ map (arrow_of (jobs_of l.completed)) (take l.id-index l.jobs)
