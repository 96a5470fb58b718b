-- What a planner keeps of the work of kernels: nothing, where each job is cut as its schedule says.
use Rattle.std.specs.Prelude.{ℕ, List, [], map, Option}
use Rattle.frame_ast.specs.declared.kernel.Kernel.{Kernel}
use Rattle.plan_state.specs.Works.{work_of}
use Rattle.frame_plan.specs.declared.small_jobs.SmallJobs.{SmallJobs}
use Rattle.frame_plan.specs.declared.small_jobs.SmallJobs.TheVariants.{Cut, Whole}

-- by kernel: how much work an index is, where small jobs are whole
abbrev pub works_by : SmallJobs → List Kernel → List (Option ℕ)
works_by Cut kernels = []
works_by Whole kernels = map work_of kernels
