use Rattle.std.proofs.Common.{map, arith}
use Rattle.std.proofs.lemmas.List.{length-map}
use Rattle.frame_parser.specs.Notes.{events_of}
use Rattle.grammar_table.specs.StackSymbols.{standing}
use Rattle.frame_parser.proofs.OperandTakings.{all_on, index_taken, told_on}
use Rattle.grammar_table.proofs.Stacks.{behind}
use Rattle.frame_parser.specs.declared.operands.TheConstants.{INDEX, INDEX_NOTES}
use Rattle.frame_parser.proofs.operands.after_name.Goals as goal

pub returns-in_ok-put : goal.returns-in_ok-put
returns-in_ok-put g c =
    told_on (map g.T.HasKind.kind_of c.args.tokens.now) _ _ _ _ _ _ _ (behind c.args.stack.now.items _ _ c.in_ok-put.ensures)
    (all_on (map g.T.HasKind.kind_of c.args.tokens.now) INDEX INDEX_NOTES c.args.from (events_of c.args.events.now.items)
    (events_of c.note_at.new.events.items) _ _
    (index_taken c.args.from (standing c.args.stack.now.items)) (c.are_at.ensures.there c.if-are_at.true)
    (omega (arith, c.are_at.ensures.room c.if-are_at.true, length-map c.args.tokens.now g.T.HasKind.kind_of)) c.in_ok-note_at.ensures)
