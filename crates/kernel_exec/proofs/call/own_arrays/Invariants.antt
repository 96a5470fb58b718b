use Rattle.kernel_exec.proofs.Table.{IsMade}
use Rattle.kernel_exec.proofs.call.own_arrays.Given as goal

abbrev pub invariant-loop-x : goal.invariant-loop-x
invariant-loop-x l = IsMade l.own l.binds l.x
