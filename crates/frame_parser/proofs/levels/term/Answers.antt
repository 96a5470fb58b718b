use Rattle.std.proofs.Common.{refl}
use Rattle.grammar_table.specs.StackSymbols.{standing}
use Rattle.frame_parser.proofs.Takings.{told_going}
use Rattle.grammar_table.proofs.Stacks.{behind}
use Rattle.frame_parser.proofs.Expressions.{term_begins}
use Rattle.frame_parser.proofs.levels.term.Goals as goal

pub returns : goal.returns
returns c ahead place done =
    told_going ahead place done done done _ _ _ refl (behind c.args.stack.now.items _ _ c.in_ok-put.ensures)
    (term_begins ahead place done (standing c.args.stack.now.items))
