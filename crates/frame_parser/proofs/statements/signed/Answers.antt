use Rattle.grammar_table.specs.StackSymbols.{standing}
use Rattle.frame_parser.specs.Notes.{events_of}
use Rattle.frame_parser.proofs.Takings.{told}
use Rattle.grammar_table.proofs.Stacks.{behind}
use Rattle.frame_parser.proofs.StatementTakings.{plain, minus}
use Rattle.frame_parser.proofs.statements.signed.Goals as goal

pub returns-in_ok-put-in-Number : goal.returns-in_ok-put-in-Number
returns-in_ok-put-in-Number c =
    told c.args.ahead _ c.args.place (events_of c.args.events.now.items) _ _ _ _ _ c.in-Number.is c.in_ok-note-in-Number.ensures
    (behind c.args.stack.now.items _ _ c.in_ok-put-in-Number.ensures)
    (plain c.args.place (events_of c.args.events.now.items) (standing c.args.stack.now.items))

pub returns-in_ok-put-in-Minus : goal.returns-in_ok-put-in-Minus
returns-in_ok-put-in-Minus c =
    told c.args.ahead _ c.args.place (events_of c.args.events.now.items) _ _ _ _ _ c.in-Minus.is c.in_ok-note-in-Minus.ensures
    (behind c.args.stack.now.items _ _ c.in_ok-put-in-Minus.ensures)
    (minus c.args.place (events_of c.args.events.now.items) (standing c.args.stack.now.items))
