use Rattle.std.proofs.Common.{◌≤◌, vec_len}
use Rattle.job_base.specs.declared.limits.TheConstants.{MOST_JOBS}
use Rattle.job_handle.specs.Sets.{HaveOwnJobs}
use Rattle.book_rows.proofs.fewest.rows_of.Given as goal

abbrev pub invariant-loop-jobs : goal.invariant-loop-jobs
invariant-loop-jobs l = (vec_len l.rows ≤ MOST_JOBS) × HaveOwnJobs (vec_len l.rows) l.rows.items
