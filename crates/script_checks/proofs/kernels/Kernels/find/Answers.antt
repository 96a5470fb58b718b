use Rattle.std.proofs.Common.{rules}
use Rattle.script_checks.proofs.JobLemmas.{kernel_within}
use Rattle.script_checks.proofs.kernels.Kernels.find.Goals as goal

pub returns-clause-within : goal.returns-clause-within
returns-clause-within c = kernel_within c.args.self.now c.args.text.now c.copied.result (search rules)
