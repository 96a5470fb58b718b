use Rattle.job_handle.proofs.Rows.{no_jobs}
use Rattle.job_handle.proofs.book.JobBook.new.Goals as goal

pub returns : goal.returns
returns c = no_jobs c.new.ensures.len c.empty.ensures
