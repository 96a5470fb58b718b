use Rattle.std.proofs.Common.{◌++◌, refl, ap}
use Rattle.frame_parser.specs.Operands.{to_come}
use Rattle.frame_parser.specs.declared.operands.Expected.TheVariants as expected
use Rattle.frame_parser.specs.declared.operands.Side.TheVariants as side
use Rattle.grammar_table.specs.StackSymbols.{standing}
use Rattle.frame_parser.proofs.Takings.{told, assigned, placed}
use Rattle.grammar_table.proofs.Stacks.{behind}
use Rattle.frame_parser.proofs.shortcuts.target.Goals as goal

pub returns-in-Assign : goal.returns-in-Assign
returns-in-Assign c place done = told c.args.ahead _ place done done done _ _ _ c.in-Assign.is refl refl (assigned place done (standing c.args.stack.now.items))

pub returns-in_ok-put-in-OpenBracket : goal.returns-in_ok-put-in-OpenBracket
returns-in_ok-put-in-OpenBracket c place done =
    told c.args.ahead _ place done done done _ _ _ c.in-OpenBracket.is refl
    (ap (λ ss. to_come (expected.Side side.Expression) ++ ss) (behind c.args.stack.now.items _ _ c.in_ok-put-in-OpenBracket.ensures))
    (placed place done (standing c.args.stack.now.items))
