use Rattle.frame_ast.specs.Laws.{AreUpTo}
use Rattle.job_handle.specs.Sets.{jobs_of}
use Rattle.book_rows.proofs.sets.set_up_to.Given as goal

abbrev pub invariant-loop-j : goal.invariant-loop-j
invariant-loop-j l = AreUpTo l.count (jobs_of l.all)
