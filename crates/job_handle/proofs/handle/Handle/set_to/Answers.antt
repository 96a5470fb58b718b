use Rattle.std.proofs.Common.{ap, ◌∙◌}
use Rattle.frame_ast.specs.Jobs.{both}
use Rattle.job_handle.specs.Sets.{jobs_of}
use Rattle.job_handle.proofs.handle.Handle.set_to.Goals as goal

pub returns : goal.returns
returns c = c.add_all.ensures ∙ ap (λ s. both s (jobs_of c.args.other.now)) c.clear.ensures
