use Rattle.std.proofs.Common.{◌++◌, ap}
use Rattle.frame_parser.specs.Operands.{to_come}
use Rattle.frame_parser.specs.declared.operands.Expected.TheVariants as expected
use Rattle.grammar_table.specs.StackSymbols.{standing}
use Rattle.frame_parser.specs.Notes.{events_of}
use Rattle.frame_parser.proofs.Takings.{both, told, assignment}
use Rattle.grammar_table.proofs.Stacks.{behind}
use Rattle.frame_parser.proofs.shortcuts.statements.Goals as goal

pub returns-in_ok-put-in-Name : goal.returns-in_ok-put-in-Name
returns-in_ok-put-in-Name c =
    told c.args.ahead _ c.args.place (events_of c.args.events.now.items) _ _ _ _ _ c.in-Name.is
    (both (events_of c.args.events.now.items) _ _ _ c.in_ok-note_both-in-Name.ensures)
    (ap (λ ss. to_come expected.Target ++ ss) (behind c.args.stack.now.items _ _ c.in_ok-put-in-Name.ensures))
    (assignment c.args.place (events_of c.args.events.now.items) (standing c.args.stack.now.items))
