use Rattle.job_handle.specs.Books.{count_of}
use Rattle.auto_deps.specs.Needs.{AreNoted}
use Rattle.book_rows.proofs.automatic.schedule.Given as goal

abbrev pub invariant-loop-tag : goal.invariant-loop-tag
invariant-loop-tag l = AreNoted (count_of l.jobs) l.book
