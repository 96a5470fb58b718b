use Rattle.std.proofs.Common.{ℕ}
use Rattle.auto_deps.specs.Needs.{AreNoted}
use Rattle.book_rows.proofs.automatic.containers.Given as goal

abbrev pub invariant-loop-slot : goal.invariant-loop-slot
invariant-loop-slot l = (n : ℕ) → AreNoted n l.book
