use Rattle.std.proofs.Common.{ap, ◌∙◌}
use Rattle.frame_ast.specs.Jobs.{both, only}
use Rattle.job_handle.proofs.handle.Handle.set_to_job.Goals as goal

pub returns : goal.returns
returns c = c.insert.ensures ∙ ap (λ s. both s (only c.args.j.0)) c.clear.ensures
