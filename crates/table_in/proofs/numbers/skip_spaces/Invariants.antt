use Rattle.std.proofs.Common.{◌≡◌, length}
use Rattle.table_in.specs.Numbers.{skip_spaces}
use Rattle.table_in.proofs.numbers.skip_spaces.Given as goal

abbrev pub invariant-loop-rest : goal.invariant-loop-rest
invariant-loop-rest l = skip_spaces l.rest ≡ skip_spaces l.fn.text

abbrev pub decreases-loop-rest : goal.decreases-loop-rest
decreases-loop-rest l = length l.rest
