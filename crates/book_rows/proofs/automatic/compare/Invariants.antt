use Rattle.job_handle.specs.Books.{count_of}
use Rattle.auto_deps.specs.Needs.{AreNoted}
use Rattle.book_rows.proofs.automatic.compare.Given as goal

abbrev pub invariant-loop-line : goal.invariant-loop-line
invariant-loop-line l = AreNoted (count_of l.jobs) l.book
