use Rattle.frame_ast.proofs.Widths.{written_parameters_have_widths}
use Rattle.frame_ast.proofs.laws.written_parameters_have_widths.Goals as goal

pub returns : goal.returns
returns c = written_parameters_have_widths
