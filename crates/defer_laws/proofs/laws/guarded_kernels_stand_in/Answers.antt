use Rattle.defer_laws.proofs.Deferring.{guarded_kernels_stand_in}
use Rattle.defer_laws.proofs.laws.guarded_kernels_stand_in.Goals as goal

pub returns : goal.returns
returns c = guarded_kernels_stand_in
