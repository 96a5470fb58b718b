-- The code of a job's kernel.
use Rattle.std.proofs.Common.{◌≡◌, ℕ, length, Some, refl, get_or, arith}
use Rattle.std.specs.Prelude.{slice_get}
use Rattle.std.proofs.lemmas.Option.{slice_get_read}
use Rattle.kernel_bytecode.specs.declared.code.Code.{Code}
use Rattle.frame_core.specs.declared.plan.JobPlan.{JobPlan}
use Rattle.frame_core.specs.declared.plan.Plan.{Plan}
use Rattle.frame_core.specs.Names.{job_at}
use Rattle.frame_core.specs.Ordered.{IsWellOrderedPlan}

pub code_there : (plan : Plan) (j : ℕ) (x : JobPlan) (code : Code) → IsWellOrderedPlan plan → job_at plan j ≡ Some x
    → code ≡ get_or plan.codes.items x.kernel code → slice_get plan.codes.items x.kernel ≡ Some code
code_there plan j x code well hx e =
    let lt = well.jobs.has_kernel j x hx in let long = well.jobs.coded.each in
    slice_get_read plan.codes.items (length plan.codes.items) x.kernel code refl (omega arith) e
