use Rattle.std.proofs.Common.{sym, ◌∙◌}
use Rattle.frame_parser.proofs.Takings.{no_and}
use Rattle.frame_parser.proofs.levels.more_and.Goals as goal

pub returns-else-eq : goal.returns-else-eq
returns-else-eq c place done ss = no_and c.args.ahead place done ss (sym c.eq.ensures ∙ c.if-eq.false)
