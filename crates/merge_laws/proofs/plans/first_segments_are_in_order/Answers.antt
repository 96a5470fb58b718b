use Rattle.merge_laws.proofs.Proceeding.{first_segments_are_in_order}
use Rattle.merge_laws.proofs.plans.first_segments_are_in_order.Goals as goal

pub returns : goal.returns
returns c = first_segments_are_in_order
