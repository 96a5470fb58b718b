use Rattle.std.proofs.Common.{◌<◌, length, map, sym, ◌∙◌, ap, subst, arith}
use Rattle.std.proofs.lemmas.List.{get_or-map, length-map}
use Rattle.grammar_table.specs.StackSymbols.{standing}
use Rattle.frame_parser.specs.Notes.{events_of}
use Rattle.frame_parser.specs.Values.{IsTaken}
use Rattle.frame_parser.proofs.OperandTakings.{expected_from}
use Rattle.frame_parser.proofs.ValueTakings.{stops_from, token_from, values_from}
use Rattle.frame_parser.proofs.parser.take_from.Goals as goal

pub returns-in-None : goal.returns-in-None
returns-in-None g c =
    let kinds = map g.T.HasKind.kind_of c.args.tokens.now in
    let ahead = get_or-map g.T.HasKind.kind_of c.args.tokens.now c.args.place c.index-tokens-place.result c.kind.result c.requires.within
    ∙ ap g.T.HasKind.kind_of (sym c.index-tokens-place.is) ∙ sym c.kind.ensures in
    let within : c.args.place < length kinds = omega (arith, length-map c.args.tokens.now g.T.HasKind.kind_of, c.requires.within) in
    let step = subst (λ t. IsTaken t c.kind.result c.args.place (events_of c.args.events.now.items) (standing c.args.stack.now.items)
    (events_of c.advance.new.events.items) (standing c.advance.new.stack.items))
    c.in-None.is c.in_ok-advance.ensures in
    stops_from kinds c.args.place c.kind.result c.kind.result (events_of c.args.events.now.items) (standing c.args.stack.now.items) within ahead step

pub returns-in-Token : goal.returns-in-Token
returns-in-Token g c =
    let kinds = map g.T.HasKind.kind_of c.args.tokens.now in
    let ahead = get_or-map g.T.HasKind.kind_of c.args.tokens.now c.args.place c.index-tokens-place.result c.kind.result c.requires.within
    ∙ ap g.T.HasKind.kind_of (sym c.index-tokens-place.is) ∙ sym c.kind.ensures in
    let within : c.args.place < length kinds = omega (arith, length-map c.args.tokens.now g.T.HasKind.kind_of, c.requires.within) in
    let step = subst (λ t. IsTaken t c.kind.result c.args.place (events_of c.args.events.now.items) (standing c.args.stack.now.items)
    (events_of c.advance.new.events.items) (standing c.advance.new.stack.items))
    c.in-Token.is c.in_ok-advance.ensures in
    token_from kinds c.args.place c.kind.result c.kind.result (events_of c.args.events.now.items) (events_of c.advance.new.events.items)
    (standing c.args.stack.now.items) (standing c.advance.new.stack.items)
    within ahead step

pub returns-in_ok-next-in-Before : goal.returns-in_ok-next-in-Before
returns-in_ok-next-in-Before g c =
    let kinds = map g.T.HasKind.kind_of c.args.tokens.now in
    let ahead = get_or-map g.T.HasKind.kind_of c.args.tokens.now c.args.place c.index-tokens-place.result c.kind.result c.requires.within
    ∙ ap g.T.HasKind.kind_of (sym c.index-tokens-place.is) ∙ sym c.kind.ensures in
    let within : c.args.place < length kinds = omega (arith, length-map c.args.tokens.now g.T.HasKind.kind_of, c.requires.within) in
    let step = subst (λ t. IsTaken t c.kind.result c.args.place (events_of c.args.events.now.items) (standing c.args.stack.now.items)
    (events_of c.advance.new.events.items) (standing c.advance.new.stack.items))
    c.in-Before.is c.in_ok-advance.ensures in
    expected_from kinds c.args.place c.in_ok-next-in-Before.next c.kind.result c.kind.result c.in-Before.expected (events_of c.args.events.now.items)
    (events_of c.advance.new.events.items)
    (events_of c.take_expected.new.events.items) (standing c.args.stack.now.items) (standing c.advance.new.stack.items)
    (standing c.take_expected.new.stack.items) within ahead step c.in_ok-next-in-Before.ensures

pub returns-in_ok-next-in-Value : goal.returns-in_ok-next-in-Value
returns-in_ok-next-in-Value g c =
    let kinds = map g.T.HasKind.kind_of c.args.tokens.now in
    let ahead = get_or-map g.T.HasKind.kind_of c.args.tokens.now c.args.place c.index-tokens-place.result c.kind.result c.requires.within
    ∙ ap g.T.HasKind.kind_of (sym c.index-tokens-place.is) ∙ sym c.kind.ensures in
    let within : c.args.place < length kinds = omega (arith, length-map c.args.tokens.now g.T.HasKind.kind_of, c.requires.within) in
    let step = subst (λ t. IsTaken t c.kind.result c.args.place (events_of c.args.events.now.items) (standing c.args.stack.now.items)
    (events_of c.advance.new.events.items) (standing c.advance.new.stack.items))
    c.in-Value.is c.in_ok-advance.ensures in
    let values = c.in_ok-next-in-Value.ensures in
    values_from kinds c.args.place c.in_ok-next-in-Value.next c.kind.result c.kind.result c.in-Value.value values.0 (events_of c.args.events.now.items)
    (events_of c.advance.new.events.items)
    (events_of c.take_values.new.events.items) (standing c.args.stack.now.items) (standing c.advance.new.stack.items)
    (standing c.take_values.new.stack.items) step.0 within ahead step.1 step.2 values.1 values.2
