use Rattle.std.proofs.Common.{sym, ◌∙◌, refl}
use Rattle.grammar_table.specs.StackSymbols.{standing}
use Rattle.grammar_table.proofs.Steps.{kinds_same}
use Rattle.frame_parser.proofs.Takings.{told}
use Rattle.grammar_table.proofs.Stacks.{behind}
use Rattle.frame_parser.proofs.StatementTakings.{line_after_item, no_item}
use Rattle.frame_parser.proofs.statements.after_item.Goals as goal

pub returns-in_ok-put : goal.returns-in_ok-put
returns-in_ok-put c place done =
    told c.args.ahead _ place done done done _ _ _ (kinds_same c.args.ahead _ (sym c.eq.ensures ∙ c.if-eq.true)) refl
    (behind c.args.stack.now.items _ _ c.in_ok-put.ensures)
    (line_after_item place done (standing c.args.stack.now.items))

pub returns-else-eq : goal.returns-else-eq
returns-else-eq c place done = no_item c.args.ahead place done (standing c.args.stack.now.items) (sym c.eq.ensures ∙ c.if-eq.false)
