use Rattle.std.proofs.Common.{◌≡◌, drop}
use Rattle.kernel_code.specs.StaticFaults.{params_fault}
use Rattle.kernel_code.proofs.check.params.params_fault.Given as goal

abbrev pub invariant-loop-number : goal.invariant-loop-number
invariant-loop-number l = params_fault l.raw 0 l.raw.params.items ≡ params_fault l.raw l.number (drop l.number l.raw.params.items)
