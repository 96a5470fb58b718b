use Rattle.std.proofs.Common.{◌≡◌}
use Rattle.plan_state.specs.Growth.{first_jobs}
use Rattle.frame_plan.proofs.finishing.all_jobs.Given as goal

abbrev pub invariant-loop-j : goal.invariant-loop-j
invariant-loop-j l = l.ids.items ≡ first_jobs l.j
