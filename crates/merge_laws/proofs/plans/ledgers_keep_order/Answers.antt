use Rattle.merge_laws.proofs.Proceeding.{ledgers_keep_order}
use Rattle.merge_laws.proofs.plans.ledgers_keep_order.Goals as goal

pub returns : goal.returns
returns c = ledgers_keep_order
