use Rattle.plan_laws.proofs.Apart.{parts_are_apart}
use Rattle.plan_laws.proofs.laws.parts_are_apart.Goals as goal

pub returns : goal.returns
returns c = parts_are_apart
