use Rattle.std.proofs.Common.{◌≡◌, map, take}
use Rattle.plan_state.specs.Works.{work_of}
use Rattle.frame_plan.proofs.small_jobs.each_work.Given as goal

abbrev pub invariant-loop-kernel : goal.invariant-loop-kernel
invariant-loop-kernel l = l.works.items ≡ map work_of (take l.kernel-index l.script.kernels.items)
