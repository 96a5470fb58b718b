use Rattle.merge_laws.proofs.Merging.{leases_are_apart}
use Rattle.merge_laws.proofs.merge.leases_are_apart.Goals as goal

pub returns : goal.returns
returns c = leases_are_apart
