use Rattle.std.proofs.Common.{◌≡◌, true}
use Rattle.safety_handle.specs.Entries.{state_of}
use Rattle.book_rows.proofs.containers.compare.Given as goal

abbrev pub invariant-loop-line : goal.invariant-loop-line
invariant-loop-line l = (state_of l.book 1).live ≡ true
