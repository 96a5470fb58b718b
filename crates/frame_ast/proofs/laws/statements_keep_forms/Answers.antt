use Rattle.frame_ast.proofs.StatementForms.{statements_keep_forms}
use Rattle.frame_ast.proofs.laws.statements_keep_forms.Goals as goal

pub returns : goal.returns
returns c = statements_keep_forms
