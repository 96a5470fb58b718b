use Rattle.merge_laws.proofs.Diamond.Worked.{diamond_is_a_plan}
use Rattle.merge_laws.proofs.examples.diamond_is_a_plan.Goals as goal

pub returns : goal.returns
returns c = diamond_is_a_plan
