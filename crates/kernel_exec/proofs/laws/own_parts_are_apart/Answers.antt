use Rattle.kernel_exec.proofs.Apart.{own_parts_are_apart}
use Rattle.kernel_exec.proofs.laws.own_parts_are_apart.Goals as goal

pub returns : goal.returns
returns c = own_parts_are_apart
