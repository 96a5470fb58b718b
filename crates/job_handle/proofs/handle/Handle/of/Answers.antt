use Rattle.std.proofs.Common.{refl, arith}
use Rattle.job_handle.proofs.handle.Handle.of.Goals as goal
use Rattle.job_handle.proofs.Bits.{of_jobs, one_within}

pub invariant_of-result : goal.invariant_of-result
invariant_of-result c = let h = c.requires.1 in record { few = (omega arith, omega arith); within = one_within _ _ }

pub returns : goal.returns
returns c = let h = c.requires.1 in of_jobs 64 c.args.j.0 _ c.requires.0 h (omega arith) refl
