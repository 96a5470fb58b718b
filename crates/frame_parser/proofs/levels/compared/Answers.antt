use Rattle.std.proofs.Common.{sym, ◌∙◌}
use Rattle.frame_parser.proofs.Takings.{no_comparison}
use Rattle.frame_parser.proofs.levels.compared.Goals as goal

pub returns-else-compares : goal.returns-else-compares
returns-else-compares c place done ss = no_comparison c.args.ahead place done ss (sym c.compares.ensures ∙ c.if-compares.false)
