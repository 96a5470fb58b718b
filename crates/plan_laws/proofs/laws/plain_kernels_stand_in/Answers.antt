use Rattle.plan_laws.proofs.Schedules.PlainKernels.{plain_kernels_stand_in}
use Rattle.plan_laws.proofs.laws.plain_kernels_stand_in.Goals as goal

pub returns : goal.returns
returns c = plain_kernels_stand_in
