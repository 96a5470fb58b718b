use Rattle.std.proofs.Common.{◌+◌, ◌++◌, map, Some, sym, ◌∙◌, ap}
use Rattle.frame_parser.specs.Notes.{events_of}
use Rattle.grammar_table.specs.StackSymbols.{standing, symbols_of}
use Rattle.frame_grammar.specs.declared.symbols.Action.TheVariants as action
use Rattle.grammar_table.specs.declared.stack_symbol.StackSymbol.TheVariants as waiting
use Rattle.frame_parser.specs.declared.operands.Expected.TheVariants as expected
use Rattle.frame_parser.specs.Operands.{to_come}
use Rattle.frame_parser.proofs.OperandTakings.{then_ok, one_on, told_on, told_events, name_of_side, number_of_side, index_of_side, some_expected, some_lined}
use Rattle.grammar_table.proofs.Stacks.{behind}
use Rattle.frame_parser.proofs.operands.take_side.Goals as goal

pub returns-in_ok-note_both-in-Some-Name : goal.returns-in_ok-note_both-in-Some-Name
returns-in_ok-note_both-in-Some-Name g c =
    let kinds = map g.T.HasKind.kind_of c.args.tokens.now in
    let put = ap (λ ss. to_come expected.Place ++ ss) c.in_ok-put_behind-in-Some-Name.ensures in
    then_ok c.after_name.result kinds c.args.from (c.args.from + 1) (events_of c.args.events.now.items) (events_of c.note_both.new.events.items)
    (events_of c.after_name.new.events.items) _ _ _
    (told_on kinds _ _ _ _ _ _ _ put
    (told_events kinds _ _ _ _ _ _ _ c.in_ok-note_both-in-Some-Name.ensures
    (one_on kinds c.args.from _ (events_of c.args.events.now.items) _ _ _ (sym c.kind_at.ensures ∙ c.in-Some-Name.is ∙ ap Some c.in-Some-Name.field-0-is)
    (name_of_side c.args.side c.args.from (events_of c.args.events.now.items) (standing c.args.stack.now.items)) (some_expected expected.Place _))))
    c.after_name.ensures

pub returns-in_ok-put-in-Some-Number : goal.returns-in_ok-put-in-Some-Number
returns-in_ok-put-in-Some-Number g c =
    let kinds = map g.T.HasKind.kind_of c.args.tokens.now in
    let put = behind c.put_behind-in-Some-Number.new.stack.items _ _ c.in_ok-put-in-Some-Number.ensures
    ∙ ap (λ ss. symbols_of (waiting.LinedAction action.NumberAtom) ++ ss) c.in_ok-put_behind-in-Some-Number.ensures in
    told_on kinds _ _ _ _ _ _ _ put
    (told_events kinds _ _ _ _ _ _ _ c.in_ok-note-in-Some-Number.ensures
    (one_on kinds c.args.from _ (events_of c.args.events.now.items) _ _ _ (sym c.kind_at.ensures ∙ c.in-Some-Number.is ∙ ap Some c.in-Some-Number.field-0-is)
    (number_of_side c.args.side c.args.from (events_of c.args.events.now.items) (standing c.args.stack.now.items)) (some_lined action.NumberAtom _)))

pub returns-in_ok-put-in-Some-Index : goal.returns-in_ok-put-in-Some-Index
returns-in_ok-put-in-Some-Index g c =
    let kinds = map g.T.HasKind.kind_of c.args.tokens.now in
    let put = behind c.put_behind-in-Some-Index.new.stack.items _ _ c.in_ok-put-in-Some-Index.ensures
    ∙ ap (λ ss. symbols_of (waiting.LinedAction action.IndexAtom) ++ ss) c.in_ok-put_behind-in-Some-Index.ensures in
    told_on kinds _ _ _ _ _ _ _ put
    (told_events kinds _ _ _ _ _ _ _ c.in_ok-note-in-Some-Index.ensures
    (one_on kinds c.args.from _ (events_of c.args.events.now.items) _ _ _ (sym c.kind_at.ensures ∙ c.in-Some-Index.is ∙ ap Some c.in-Some-Index.field-0-is)
    (index_of_side c.args.side c.args.from (events_of c.args.events.now.items) (standing c.args.stack.now.items)) (some_lined action.IndexAtom _)))
