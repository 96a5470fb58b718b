use Rattle.frame_ast.proofs.Keeping.{jobs_keep_forms}
use Rattle.frame_ast.proofs.laws.jobs_keep_forms.Goals as goal

pub returns : goal.returns
returns c = jobs_keep_forms
