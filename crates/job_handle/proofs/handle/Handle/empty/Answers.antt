use Rattle.std.proofs.Common.{arith}
use Rattle.job_handle.proofs.handle.Handle.empty.Goals as goal
use Rattle.job_handle.proofs.Bits.{empty_jobs, empty_within}

pub invariant_of-result : goal.invariant_of-result
invariant_of-result c = record { few = (omega arith, omega arith); within = empty_within 64 }

pub returns : goal.returns
returns c = empty_jobs 64
