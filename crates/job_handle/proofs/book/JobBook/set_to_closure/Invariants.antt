use Rattle.std.proofs.Common.{◌≤◌, vec_len}
use Rattle.job_handle.specs.Books.{IsUnion}
use Rattle.job_handle.proofs.book.JobBook.set_to_closure.Given as goal

abbrev pub invariant-loop-j : goal.invariant-loop-j
invariant-loop-j l = record {
  within : l.left ≤ vec_len l.self.rows;
  union : IsUnion (vec_len l.self.rows) l.self.rows.items l.self.completed l.h l.all l.left;
}

abbrev pub decreases-loop-j : goal.decreases-loop-j
decreases-loop-j l = l.left
