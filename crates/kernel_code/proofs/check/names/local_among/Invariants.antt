use Rattle.std.proofs.Common.{◌≡◌, drop}
use Rattle.kernel_code.specs.Scopes.{local_among}
use Rattle.kernel_code.proofs.check.names.local_among.Given as goal

abbrev pub invariant-loop-k : goal.invariant-loop-k
invariant-loop-k l = local_among l.raw l.node l.name 0 l.locals ≡ local_among l.raw l.node l.name l.k (drop l.k l.locals)
