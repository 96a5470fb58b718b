use Rattle.kernel_bytecode.proofs.Safety.{code_is_safe}
use Rattle.kernel_bytecode.proofs.laws.code_is_safe.Goals as goal

pub returns : goal.returns
returns c = code_is_safe
