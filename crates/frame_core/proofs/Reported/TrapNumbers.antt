-- The numbers of traps are small.
use Rattle.std.proofs.Common.{◌<◌, ◌^◌, arith}
use Rattle.job_base.specs.declared.Trap.{Trap}
use Rattle.job_base.specs.declared.Trap.TheVariants.{Overflow, ZeroDivisor, Range, OwnIndex, Full, MissingKey, PresentKey, Written, Budget}
use Rattle.frame_core.specs.Effects.{trap_number}

pub number_small : (trap : Trap) → trap_number trap < 2 ^ 32
number_small Overflow = omega arith
number_small ZeroDivisor = omega arith
number_small Range = omega arith
number_small OwnIndex = omega arith
number_small Full = omega arith
number_small MissingKey = omega arith
number_small PresentKey = omega arith
number_small Written = omega arith
number_small Budget = omega arith
