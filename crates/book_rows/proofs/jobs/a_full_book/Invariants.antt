use Rattle.frame_ast.specs.Laws.{AreUpTo}
use Rattle.job_handle.specs.Sets.{jobs_of}
use Rattle.job_handle.specs.Books.{count_of}
use Rattle.book_rows.proofs.jobs.a_full_book.Given as goal

abbrev pub invariant-loop : goal.invariant-loop
invariant-loop g l = AreUpTo (count_of l.book) (jobs_of l.all)
