use Rattle.std.proofs.Common.{subst}
use Rattle.frame_ast.specs.Laws.{AreUpTo}
use Rattle.job_handle.specs.Sets.{jobs_of}
use Rattle.book_rows.proofs.sets.set.Goals as goal

pub returns : goal.returns
returns c = subst (λ n. AreUpTo n (jobs_of c.set_up_to.result)) c.count.ensures.count c.set_up_to.ensures
