use Rattle.std.proofs.Common.{sym, ◌∙◌, refl}
use Rattle.grammar_table.specs.StackSymbols.{standing}
use Rattle.grammar_table.proofs.Steps.{kinds_same}
use Rattle.frame_parser.proofs.Takings.{told, line_end, no_line_end}
use Rattle.grammar_table.proofs.Stacks.{behind}
use Rattle.frame_parser.proofs.shortcuts.lines.Goals as goal

pub returns-in_ok-put : goal.returns-in_ok-put
returns-in_ok-put c place done =
    told c.args.ahead _ place done done done _ _ _ (kinds_same c.args.ahead _ (sym c.eq.ensures ∙ c.if-eq.true)) refl
    (behind c.args.stack.now.items _ _ c.in_ok-put.ensures)
    (line_end place done (standing c.args.stack.now.items))

pub returns-else-eq : goal.returns-else-eq
returns-else-eq c place done = no_line_end c.args.ahead place done (standing c.args.stack.now.items) (sym c.eq.ensures ∙ c.if-eq.false)
