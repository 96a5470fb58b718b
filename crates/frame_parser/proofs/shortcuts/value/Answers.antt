use Rattle.std.proofs.Common.{sym, ◌∙◌, refl}
use Rattle.grammar_table.specs.StackSymbols.{standing}
use Rattle.frame_parser.proofs.Takings.{told_going}
use Rattle.grammar_table.proofs.Stacks.{behind}
use Rattle.frame_parser.proofs.Expressions.{assigned_expression}
use Rattle.frame_parser.proofs.shortcuts.value.Goals as goal

pub returns : goal.returns
returns c place done =
    told_going c.args.ahead place done done done _ _ _ refl (behind c.args.stack.now.items _ _ c.in_ok-put.ensures)
    (assigned_expression c.args.ahead place done (standing c.args.stack.now.items) (sym c.begins_effect.ensures ∙ c.if-begins_effect.false))
