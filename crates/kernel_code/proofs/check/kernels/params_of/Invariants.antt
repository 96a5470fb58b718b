use Rattle.std.proofs.Common.{◌≡◌, map, take}
use Rattle.kernel_code.specs.Trees.{param_text, raw_param_text}
use Rattle.kernel_code.proofs.check.kernels.params_of.Given as goal

abbrev pub invariant-loop-i : goal.invariant-loop-i
invariant-loop-i l = map param_text l.params.items ≡ map (raw_param_text l.raw) (take l.i l.raw.params.items)
