use Rattle.std.proofs.Common.{◌≡◌, ◌≤◌, ◌-◌, Some, slice_get, take, ◌∷◌, [], ◌++◌, length, map, subst, subst₂, sym, ◌∙◌, ap, arith}
use Rattle.std.proofs.lemmas.List.{length-map}
use Rattle.std.proofs.lemmas.Option.{MatchOption-at_none, MatchOption-at_some}
use Rattle.grammar_table.specs.StackSymbols.{standing}
use Rattle.frame_parser.specs.Notes.{events_of}
use Rattle.grammar_table.specs.declared.stack_symbol.StackSymbol.TheVariants as waiting
use Rattle.frame_grammar.specs.declared.symbols.Nonterminal.TheVariants.{Items}
use Rattle.frame_grammar.specs.Sentences.{IsFault}
use Rattle.grammar_table.specs.Stack.{Between}
use Rattle.grammar_table.proofs.Steps.{between_start, never_left}
use Rattle.grammar_table.proofs.Stacks.{last_on_top, empty_stack, full_stack}
use Rattle.frame_parser.proofs.parser.parse.Goals as goal

pub loop-place-init : goal.loop-place-init
loop-place-init g c =
    let start = c.in_ok-push.ensures.items ∙ ap (λ xs. xs ++ waiting.Nonterminal c.args.start ∷ []) c.new-stack.ensures.items in
    subst₂ (λ es ss. Between c.args.start (map g.T.HasKind.kind_of c.args.tokens.now) 0 es ss) (sym (ap events_of c.new-events.ensures.items))
    (ap standing (sym start))
    (between_start c.args.start (map g.T.HasKind.kind_of c.args.tokens.now) c.requires.start)

pub returns-in_default-clause-fault : goal.returns-in_default-clause-fault
returns-in_default-clause-fault g c place e =
    let same : c.loop-place.place ≡ place = cc in
    subst (IsFault c.args.start (map g.T.HasKind.kind_of c.args.tokens.now)) same
    (MatchOption-at_none _ _ c.in_default.is c.in_ok-next.ensures c.args.start c.loop-place.invariant)

pub returns-then-is_empty-clause-sentence : goal.returns-then-is_empty-clause-sentence
returns-then-is_empty-clause-sentence g c =
    let taken = MatchOption-at_some _ _ c.in-Some.next c.in-Some.is c.in_ok-next.ensures in
    taken.ended c.args.start c.loop-place.invariant (empty_stack c.take_from.new.stack.items _ c.take_from.new.stack.ok.0 (sym c.if-is_empty.ensures))

pub loop-place-preserved : goal.loop-place-preserved
loop-place-preserved g c =
    let taken = MatchOption-at_some _ _ c.in-Some.next c.in-Some.is c.in_ok-next.ensures in
    taken.more c.args.start c.loop-place.invariant (full_stack c.take_from.new.stack.items _ c.take_from.new.stack.ok.0 (sym c.if-is_empty.ensures))

pub unreachable-requires : goal.unreachable-requires
unreachable-requires g c =
    let kinds = map g.T.HasKind.kind_of c.args.tokens.now in
    let past : length kinds ≤ c.loop-place.place = omega (arith, length-map c.args.tokens.now g.T.HasKind.kind_of, c.loop-place-test.false) in
    never_left c.args.start kinds c.loop-place.place (events_of c.loop-place.events.items)
    (standing c.loop-place.stack.items) c.requires.start c.requires.ended past c.loop-place.invariant

pub loop-place-smaller-then-is_at_items : goal.loop-place-smaller-then-is_at_items
loop-place-smaller-then-is_at_items g c =
    let taken = MatchOption-at_some _ _ c.in-Some.next c.in-Some.is c.in_ok-next.ensures in
    omega (arith, c.loop-place-test.true, taken.on, c.in_ok-place.ensures.on)

pub loop-place-preserved-then-is_at_items : goal.loop-place-preserved-then-is_at_items
loop-place-preserved-then-is_at_items g c =
    let kinds = map g.T.HasKind.kind_of c.args.tokens.now in
    let taken = MatchOption-at_some _ _ c.in-Some.next c.in-Some.is c.in_ok-next.ensures in
    let stack = c.take_from.new.stack.items in
    let last = subst (λ xs. slice_get xs (length xs - 1) ≡ Some (waiting.Nonterminal Items)) c.deref.ensures.value
    (c.is_at_items.ensures c.if-is_at_items.true) in
    let seen = last_on_top stack (waiting.Nonterminal Items) last in
    let more = taken.more c.args.start c.loop-place.invariant (full_stack stack _ c.take_from.new.stack.ok.0 (sym c.if-is_empty.ensures)) in
    subst (λ ss. Between c.args.start kinds c.in_ok-place.place (events_of c.take_lines.new.events.items) ss) (sym seen)
    (c.in_ok-place.ensures.between c.args.start (standing (take (length stack - 1) stack))
    (subst (Between c.args.start kinds c.in-Some.next (events_of c.take_from.new.events.items)) seen more))
