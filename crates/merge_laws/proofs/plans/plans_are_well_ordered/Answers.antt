use Rattle.merge_laws.proofs.Framing.{plans_are_well_ordered}
use Rattle.merge_laws.proofs.plans.plans_are_well_ordered.Goals as goal

pub returns : goal.returns
returns c = plans_are_well_ordered
