use Rattle.std.proofs.Common.{◌++◌, refl, ap}
use Rattle.frame_parser.specs.Operands.{to_come}
use Rattle.frame_parser.specs.declared.operands.Expected.TheVariants as expected
use Rattle.frame_parser.specs.declared.operands.Side.TheVariants as side
use Rattle.grammar_table.specs.StackSymbols.{standing}
use Rattle.frame_parser.specs.Notes.{events_of}
use Rattle.frame_parser.proofs.Takings.{both, told, name, number, index, parens}
use Rattle.grammar_table.proofs.Stacks.{behind}
use Rattle.frame_parser.proofs.shortcuts.operand.Goals as goal

pub returns-in_ok-note_both-in-Name : goal.returns-in_ok-note_both-in-Name
returns-in_ok-note_both-in-Name c =
    told c.args.ahead _ c.args.place (events_of c.args.events.now.items) _ _ _ _ _ c.in-Name.is
    (both (events_of c.args.events.now.items) _ _ _ c.in_ok-note_both-in-Name.ensures) refl
    (name c.args.place (events_of c.args.events.now.items) (standing c.args.stack.now.items))

pub returns-in_ok-put-in-Number : goal.returns-in_ok-put-in-Number
returns-in_ok-put-in-Number c =
    told c.args.ahead _ c.args.place (events_of c.args.events.now.items) _ _ _ _ _ c.in-Number.is c.in_ok-note-in-Number.ensures
    (behind c.args.stack.now.items _ _ c.in_ok-put-in-Number.ensures)
    (number c.args.place (events_of c.args.events.now.items) (standing c.args.stack.now.items))

pub returns-in_ok-put-in-Index : goal.returns-in_ok-put-in-Index
returns-in_ok-put-in-Index c =
    told c.args.ahead _ c.args.place (events_of c.args.events.now.items) _ _ _ _ _ c.in-Index.is c.in_ok-note-in-Index.ensures
    (behind c.args.stack.now.items _ _ c.in_ok-put-in-Index.ensures)
    (index c.args.place (events_of c.args.events.now.items) (standing c.args.stack.now.items))

pub returns-in_ok-put-in-OpenParen : goal.returns-in_ok-put-in-OpenParen
returns-in_ok-put-in-OpenParen c =
    told c.args.ahead _ c.args.place (events_of c.args.events.now.items) _ _ _ _ _ c.in-OpenParen.is refl
    (ap (λ ss. to_come (expected.Side side.Expression) ++ ss) (behind c.args.stack.now.items _ _ c.in_ok-put-in-OpenParen.ensures))
    (parens c.args.place (events_of c.args.events.now.items) (standing c.args.stack.now.items))
