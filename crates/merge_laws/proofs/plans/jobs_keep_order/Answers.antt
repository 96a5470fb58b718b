use Rattle.merge_laws.proofs.Starting.{jobs_keep_order}
use Rattle.merge_laws.proofs.plans.jobs_keep_order.Goals as goal

pub returns : goal.returns
returns c = jobs_keep_order
