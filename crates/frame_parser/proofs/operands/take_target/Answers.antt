use Rattle.std.proofs.Common.{◌+◌, ◌++◌, map, Some, sym, ◌∙◌, ap, arith}
use Rattle.std.proofs.lemmas.List.{length-map}
use Rattle.frame_parser.specs.Notes.{events_of}
use Rattle.frame_parser.specs.Operands.{to_come}
use Rattle.grammar_table.specs.StackSymbols.{standing}
use Rattle.frame_parser.specs.declared.operands.TheConstants.{INDEX_ASSIGN, INDEX_NOTES}
use Rattle.frame_parser.specs.declared.operands.Expected.TheVariants as expected
use Rattle.frame_parser.specs.declared.operands.Side.TheVariants as side
use Rattle.frame_parser.proofs.OperandTakings.{then_ok, one_on, all_on, told_on, assign_taken, index_assign_taken, some_expected}
use Rattle.grammar_table.proofs.Stacks.{behind}
use Rattle.frame_parser.proofs.operands.take_target.Goals as goal

pub returns-in-Some-Assign : goal.returns-in-Some-Assign
returns-in-Some-Assign g c =
    let kinds = map g.T.HasKind.kind_of c.args.tokens.now in
    then_ok c.take_side.result kinds c.args.from (c.args.from + 1) (events_of c.args.events.now.items) (events_of c.args.events.now.items)
    (events_of c.take_side.new.events.items) _ _ _
    (one_on kinds c.args.from _ (events_of c.args.events.now.items) _ _ _ (sym c.kind_at.ensures ∙ c.in-Some-Assign.is ∙ ap Some c.in-Some-Assign.field-0-is)
    (assign_taken c.args.from (events_of c.args.events.now.items) (standing c.args.stack.now.items)) (some_expected (expected.Side side.Value) _))
    c.take_side.ensures

pub returns-in_ok-put-in-Some-OpenBracket : goal.returns-in_ok-put-in-Some-OpenBracket
returns-in_ok-put-in-Some-OpenBracket g c =
    let kinds = map g.T.HasKind.kind_of c.args.tokens.now in
    let put = ap (λ ss. to_come (expected.Side side.Expression) ++ ss) (behind c.args.stack.now.items _ _ c.in_ok-put-in-Some-OpenBracket.ensures) in
    then_ok c.take_side-in-Some-OpenBracket.result kinds c.args.from (c.args.from + 4) (events_of c.args.events.now.items)
    (events_of c.note_at.new.events.items)
    (events_of c.take_side-in-Some-OpenBracket.new.events.items) _ _ _
    (told_on kinds _ _ _ _ _ _ _ put
    (all_on kinds INDEX_ASSIGN INDEX_NOTES c.args.from (events_of c.args.events.now.items) (events_of c.note_at.new.events.items) _ _
    (index_assign_taken c.args.from (standing c.args.stack.now.items)) (c.are_at.ensures.there c.if-are_at.true)
    (omega (arith, c.are_at.ensures.room c.if-are_at.true, length-map c.args.tokens.now g.T.HasKind.kind_of)) c.in_ok-note_at-in-Some-OpenBracket.ensures))
    c.take_side-in-Some-OpenBracket.ensures
