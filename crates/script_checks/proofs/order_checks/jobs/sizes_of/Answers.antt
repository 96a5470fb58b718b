use Rattle.std.proofs.Common.{refl}
use Rattle.script_checks.proofs.FaultLemmas.{first_end}
use Rattle.script_checks.proofs.order_checks.jobs.sizes_of.Goals as goal

pub returns-in-None : goal.returns-in-None
returns-in-None c = rw c.in-None.is (first_end, (refl, (λ m. refl)))
