use Rattle.std.proofs.Common.{vec_len}
use Rattle.job_handle.proofs.Rows.{completes}
use Rattle.job_handle.proofs.book.JobBook.complete.Goals as goal

pub returns-clause-book : goal.returns-clause-book
returns-clause-book c =
    let book = c.args.self.now in
    completes (vec_len book.rows) book.rows.items book.completed c.args.h.now c.set_to_closure.new.all c.add_all.new.self c.set_to_closure.ensures.all
    c.add_all.ensures c.requires
