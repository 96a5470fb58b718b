use Rattle.std.proofs.Common.{◌∙◌, ap, arith}
use Rattle.std.specs.Prelude.{get_or}
use Rattle.plan_state.proofs.Accessing.{read_some}
use Rattle.frame_plan.proofs.small_jobs.each_work.Goals as goal

pub work_of-requires : goal.work_of-requires
work_of-requires c = record {
  checked =
      c.requires.accepted.kernels c.loop-kernel.kernel-index c.kernel-item.result
      (read_some c.args.script.now.kernels c.loop-kernel.kernel-index c.kernel-item.result
      (let len = c.args.script.now.kernels.ok.0 in omega arith)
      (c.kernel-item.is ∙ ap (λ l. get_or l c.loop-kernel.kernel-index c.kernel-item.result) c.deref-kernel-items.ensures.value));
}
