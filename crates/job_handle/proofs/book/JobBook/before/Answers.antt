use Rattle.std.proofs.Common.{ap, ◌∙◌}
use Rattle.std.specs.Prelude.{◌||◌}
use Rattle.std.proofs.Math.Bool.{or_comm}
use Rattle.frame_ast.specs.Jobs.{ancestors_in}
use Rattle.job_handle.specs.Sets.{jobs_of}
use Rattle.job_handle.proofs.book.JobBook.before.Goals as goal

pub returns : goal.returns
returns c b F k =
    let before = ancestors_in b (jobs_of c.args.after.now) k in
    (λ i. c.add_all.ensures i k)
    ∙ ap (λ x. x || jobs_of c.args.self.now.completed k) (c.set_to_closure.ensures.all b F k)
    ∙ ap (λ x. before || x) (F.completed k)
    ∙ or_comm before (b.completed k)
