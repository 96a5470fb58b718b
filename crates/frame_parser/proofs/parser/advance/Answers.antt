use Rattle.std.proofs.Common.{◌≡◌, ◌∷◌, [], ◌++◌, ◌∙◌, refl, sym, subst, ap, arith}
use Rattle.std.proofs.lemmas.List.{append-nil, map-append}
use Rattle.std.proofs.lemmas.Bool.{MatchBool-at_true, MatchBool-at_false}
use Rattle.std.proofs.lemmas.Option.{MatchOption-at_none, MatchOption-at_some}
use Rattle.grammar_table.specs.StackSymbols.{standing, symbols_of}
use Rattle.frame_parser.specs.Notes.{event_of, events_of}
use Rattle.frame_parser.specs.Operands.{to_come}
use Rattle.frame_grammar.specs.Bodies.{body_of}
use Rattle.frame_parser.specs.Parser.{IsStep}
use Rattle.grammar_table.specs.Stack.{Takes}
use Rattle.frame_parser.specs.Values.{in_values}
use Rattle.frame_parser.proofs.Takings.{leads_take, leads_go, part_takes, part_goes, line_taken_before, past_lines}
use Rattle.grammar_table.proofs.Steps.{Leads, taken, stops_empty, goes_on_by, acts, stops_at, smaller, kinds_same, kinds_differ}
use Rattle.grammar_table.proofs.Stacks.{top, top_is, no_top, body_on_top, behind}
use Rattle.frame_grammar.specs.declared.symbols.Symbol.TheVariants as symbol
use Rattle.grammar_table.specs.declared.stack_symbol.StackSymbol.TheVariants as waiting
use Rattle.frame_parser.proofs.parser.advance.Goals as goal

pub returns-then-takes_line : goal.returns-then-takes_line
returns-then-takes_line c =
    let first = top c.loop-next.stack.items c.pop.new.self.items c.pop.result c.in-Some.next c.pop.ensures.items c.in-Some.is in
    let here = subst (λ ss. Leads c.args.ahead c.args.place (events_of c.args.events.now.items) (standing c.args.stack.now.items)
    (events_of c.loop-next.events.items) ss) first c.loop-next.invariant in
    let put = behind c.pop.new.self.items c.push.new.self.items (c.in-Some.next ∷ []) c.in_ok-push.ensures.items
    ∙ ap (λ ss. ss ++ standing c.pop.new.self.items) (append-nil (symbols_of c.in-Some.next)) in
    leads_take c.args.ahead c.args.place (events_of c.args.events.now.items) (events_of c.loop-next.events.items) (events_of c.loop-next.events.items)
    (standing c.args.stack.now.items)
    (symbols_of c.in-Some.next ++ standing c.pop.new.self.items) (standing c.push.new.self.items) here
    (subst (Takes c.args.ahead c.args.place (events_of c.loop-next.events.items) (symbols_of c.in-Some.next ++ standing c.pop.new.self.items)
    (events_of c.loop-next.events.items)) (sym put)
    (line_taken_before c.in-Some.next c.args.ahead c.args.place (events_of c.loop-next.events.items) (standing c.pop.new.self.items)
    (sym c.takes_line.ensures ∙ c.if-takes_line.true)))

pub returns-then-eq : goal.returns-then-eq
returns-then-eq c =
    let first = top_is c.loop-next.stack.items c.pop.new.self.items c.pop.result c.in-Some.next _ c.pop.ensures.items c.in-Some.is c.in-Terminal.is in
    let here = subst (λ ss. Leads c.args.ahead c.args.place (events_of c.args.events.now.items) (standing c.args.stack.now.items)
    (events_of c.loop-next.events.items) ss) first c.loop-next.invariant in
    MatchBool-at_true _ _ c.if-eq.true
    (taken c.args.ahead c.args.place (events_of c.args.events.now.items) (events_of c.loop-next.events.items) (standing c.args.stack.now.items)
    (standing c.pop.new.self.items) c.in-Terminal.kind c.eq.result here
    (λ e. kinds_same c.in-Terminal.kind c.args.ahead (sym c.eq.ensures ∙ e))
    (λ e. kinds_differ c.in-Terminal.kind c.args.ahead (sym c.eq.ensures ∙ e)))

pub returns-in-Terminal : goal.returns-in-Terminal
returns-in-Terminal c =
    let first = top_is c.loop-next.stack.items c.pop.new.self.items c.pop.result c.in-Some.next _ c.pop.ensures.items c.in-Some.is c.in-Terminal.is in
    let here = subst (λ ss. Leads c.args.ahead c.args.place (events_of c.args.events.now.items) (standing c.args.stack.now.items)
    (events_of c.loop-next.events.items) ss) first c.loop-next.invariant in
    MatchBool-at_false _ _ c.if-eq.false
    (taken c.args.ahead c.args.place (events_of c.args.events.now.items) (events_of c.loop-next.events.items) (standing c.args.stack.now.items)
    (standing c.pop.new.self.items) c.in-Terminal.kind c.eq.result here
    (λ e. kinds_same c.in-Terminal.kind c.args.ahead (sym c.eq.ensures ∙ e))
    (λ e. kinds_differ c.in-Terminal.kind c.args.ahead (sym c.eq.ensures ∙ e)))

pub returns-in-Some-4 : goal.returns-in-Some-4
returns-in-Some-4 c =
    let step = MatchOption-at_some _ _ c.in-Some-4.value c.in-Some-4.is c.in_ok-value-in-Action.ensures.taken in
    let first = top c.loop-next.stack.items c.pop.new.self.items c.pop.result c.in-Some.next c.pop.ensures.items c.in-Some.is in
    let here = subst (λ ss. Leads c.args.ahead c.args.place (events_of c.args.events.now.items) (standing c.args.stack.now.items)
    (events_of c.loop-next.events.items) ss) first c.loop-next.invariant in
    let past = past_lines c.in-Some.next (waiting.Action c.in-Action.action) (waiting.LinedAction c.in-Action.action)
    (symbol.Action c.in-Action.action) c.args.ahead c.args.place (events_of c.args.events.now.items) (events_of c.loop-next.events.items)
    (standing c.args.stack.now.items)
    (standing c.pop.new.self.items) refl refl refl c.in-Action.is (sym c.takes_line.ensures ∙ c.if-takes_line.false) here in
    let same : c.deref.result.now ≡ c.pop.new.self.items = c.deref.ensures.value in (
      step.0,
      ap standing (sym same) ∙ step.1,
      leads_take c.args.ahead c.args.place (events_of c.args.events.now.items) (events_of c.loop-next.events.items)
          (events_of c.take_next_value.new.events.items) (standing c.args.stack.now.items)
          (symbol.Action c.in-Action.action ∷ standing c.pop.new.self.items) (in_values c.in-Some-4.value step.0) past.leads
          (subst (λ ws. Takes c.args.ahead c.args.place (events_of c.loop-next.events.items) (symbol.Action c.in-Action.action ∷ standing ws)
          (events_of c.take_next_value.new.events.items) (in_values c.in-Some-4.value step.0)) same step.2),
    )

pub loop-next-preserved : goal.loop-next-preserved
loop-next-preserved c =
    let kept = MatchOption-at_none _ _ c.in_default-4.is c.in_ok-value-in-Action.ensures.taken in
    let first = top c.loop-next.stack.items c.pop.new.self.items c.pop.result c.in-Some.next c.pop.ensures.items c.in-Some.is in
    let here = subst (λ ss. Leads c.args.ahead c.args.place (events_of c.args.events.now.items) (standing c.args.stack.now.items)
    (events_of c.loop-next.events.items) ss) first c.loop-next.invariant in
    let past = past_lines c.in-Some.next (waiting.Action c.in-Action.action) (waiting.LinedAction c.in-Action.action)
    (symbol.Action c.in-Action.action) c.args.ahead c.args.place (events_of c.args.events.now.items) (events_of c.loop-next.events.items)
    (standing c.args.stack.now.items)
    (standing c.pop.new.self.items) refl refl refl c.in-Action.is (sym c.takes_line.ensures ∙ c.if-takes_line.false) here in
    let led = acts c.args.ahead c.args.place (events_of c.args.events.now.items) (events_of c.loop-next.events.items) (standing c.args.stack.now.items)
    (standing c.pop.new.self.items) c.in-Action.action past.leads in
    let events = c.take_next_value.new.events.items in
    let noted = ap events_of c.in_ok-push-in-Action.ensures.items ∙ map-append event_of events (c.of.result ∷ [])
    ∙ ap (λ e. events_of events ++ e ∷ []) c.of.ensures
    ∙ ap (λ es. es ++ record { action = c.in-Action.action; place = c.args.place } ∷ []) kept in
    subst (λ es. Leads c.args.ahead c.args.place (events_of c.args.events.now.items) (standing c.args.stack.now.items) es (standing c.pop.new.self.items))
    (sym noted) led

pub loop-next-smaller : goal.loop-next-smaller
loop-next-smaller c =
    let first = top c.loop-next.stack.items c.pop.new.self.items c.pop.result c.in-Some.next c.pop.ensures.items c.in-Some.is in
    let here = subst (λ ss. Leads c.args.ahead c.args.place (events_of c.args.events.now.items) (standing c.args.stack.now.items)
    (events_of c.loop-next.events.items) ss) first c.loop-next.invariant in
    let past = past_lines c.in-Some.next (waiting.Action c.in-Action.action) (waiting.LinedAction c.in-Action.action)
    (symbol.Action c.in-Action.action) c.args.ahead c.args.place (events_of c.args.events.now.items) (events_of c.loop-next.events.items)
    (standing c.args.stack.now.items)
    (standing c.pop.new.self.items) refl refl refl c.in-Action.is (sym c.takes_line.ensures ∙ c.if-takes_line.false) here in
    rw (first) (omega (arith, past.nearer))

pub returns-in-Took : goal.returns-in-Took
returns-in-Took c =
    let step = subst (λ s. IsStep s c.args.ahead c.args.place c.in-Nonterminal.nonterminal (events_of c.loop-next.events.items) (standing c.pop.new.self.items)
    (events_of c.known_step.new.events.items) (standing c.known_step.new.stack.items))
    c.in-Took.is c.in_ok-known_step-in-Nonterminal.ensures in
    let first = top c.loop-next.stack.items c.pop.new.self.items c.pop.result c.in-Some.next c.pop.ensures.items c.in-Some.is in
    let here = subst (λ ss. Leads c.args.ahead c.args.place (events_of c.args.events.now.items) (standing c.args.stack.now.items)
    (events_of c.loop-next.events.items) ss) first c.loop-next.invariant in
    let past = past_lines c.in-Some.next (waiting.Nonterminal c.in-Nonterminal.nonterminal) (waiting.LinedNonterminal c.in-Nonterminal.nonterminal)
    (symbol.Nonterminal c.in-Nonterminal.nonterminal) c.args.ahead c.args.place (events_of c.args.events.now.items) (events_of c.loop-next.events.items)
    (standing c.args.stack.now.items)
    (standing c.pop.new.self.items) refl refl refl c.in-Nonterminal.is (sym c.takes_line.ensures ∙ c.if-takes_line.false) here in
    leads_take c.args.ahead c.args.place (events_of c.args.events.now.items) (events_of c.loop-next.events.items) (events_of c.known_step.new.events.items)
    (standing c.args.stack.now.items)
    (symbol.Nonterminal c.in-Nonterminal.nonterminal ∷ standing c.pop.new.self.items) (standing c.known_step.new.stack.items) past.leads step

pub returns-in-TookBefore : goal.returns-in-TookBefore
returns-in-TookBefore c =
    let step = subst (λ s. IsStep s c.args.ahead c.args.place c.in-Nonterminal.nonterminal (events_of c.loop-next.events.items) (standing c.pop.new.self.items)
    (events_of c.known_step.new.events.items) (standing c.known_step.new.stack.items))
    c.in-TookBefore.is c.in_ok-known_step-in-Nonterminal.ensures in
    let first = top c.loop-next.stack.items c.pop.new.self.items c.pop.result c.in-Some.next c.pop.ensures.items c.in-Some.is in
    let here = subst (λ ss. Leads c.args.ahead c.args.place (events_of c.args.events.now.items) (standing c.args.stack.now.items)
    (events_of c.loop-next.events.items) ss) first c.loop-next.invariant in
    let past = past_lines c.in-Some.next (waiting.Nonterminal c.in-Nonterminal.nonterminal) (waiting.LinedNonterminal c.in-Nonterminal.nonterminal)
    (symbol.Nonterminal c.in-Nonterminal.nonterminal) c.args.ahead c.args.place (events_of c.args.events.now.items) (events_of c.loop-next.events.items)
    (standing c.args.stack.now.items)
    (standing c.pop.new.self.items) refl refl refl c.in-Nonterminal.is (sym c.takes_line.ensures ∙ c.if-takes_line.false) here in
    leads_take c.args.ahead c.args.place (events_of c.args.events.now.items) (events_of c.loop-next.events.items) (events_of c.known_step.new.events.items)
    (standing c.args.stack.now.items)
    (symbol.Nonterminal c.in-Nonterminal.nonterminal ∷ standing c.pop.new.self.items)
    (to_come c.in-TookBefore.expected ++ standing c.known_step.new.stack.items) past.leads step

pub loop-next-preserved-in-WentOn : goal.loop-next-preserved-in-WentOn
loop-next-preserved-in-WentOn c =
    let step = subst (λ s. IsStep s c.args.ahead c.args.place c.in-Nonterminal.nonterminal (events_of c.loop-next.events.items) (standing c.pop.new.self.items)
    (events_of c.known_step.new.events.items) (standing c.known_step.new.stack.items))
    c.in-WentOn.is c.in_ok-known_step-in-Nonterminal.ensures in
    let first = top c.loop-next.stack.items c.pop.new.self.items c.pop.result c.in-Some.next c.pop.ensures.items c.in-Some.is in
    let here = subst (λ ss. Leads c.args.ahead c.args.place (events_of c.args.events.now.items) (standing c.args.stack.now.items)
    (events_of c.loop-next.events.items) ss) first c.loop-next.invariant in
    let past = past_lines c.in-Some.next (waiting.Nonterminal c.in-Nonterminal.nonterminal) (waiting.LinedNonterminal c.in-Nonterminal.nonterminal)
    (symbol.Nonterminal c.in-Nonterminal.nonterminal) c.args.ahead c.args.place (events_of c.args.events.now.items) (events_of c.loop-next.events.items)
    (standing c.args.stack.now.items)
    (standing c.pop.new.self.items) refl refl refl c.in-Nonterminal.is (sym c.takes_line.ensures ∙ c.if-takes_line.false) here in
    leads_go c.args.ahead c.args.place (events_of c.args.events.now.items) (events_of c.loop-next.events.items) (events_of c.known_step.new.events.items)
    (standing c.args.stack.now.items)
    (symbol.Nonterminal c.in-Nonterminal.nonterminal ∷ standing c.pop.new.self.items) (standing c.known_step.new.stack.items) past.leads step

pub loop-next-smaller-in-WentOn : goal.loop-next-smaller-in-WentOn
loop-next-smaller-in-WentOn c =
    let step = subst (λ s. IsStep s c.args.ahead c.args.place c.in-Nonterminal.nonterminal (events_of c.loop-next.events.items) (standing c.pop.new.self.items)
    (events_of c.known_step.new.events.items) (standing c.known_step.new.stack.items))
    c.in-WentOn.is c.in_ok-known_step-in-Nonterminal.ensures in
    let first = top c.loop-next.stack.items c.pop.new.self.items c.pop.result c.in-Some.next c.pop.ensures.items c.in-Some.is in
    let here = subst (λ ss. Leads c.args.ahead c.args.place (events_of c.args.events.now.items) (standing c.args.stack.now.items)
    (events_of c.loop-next.events.items) ss) first c.loop-next.invariant in
    let past = past_lines c.in-Some.next (waiting.Nonterminal c.in-Nonterminal.nonterminal) (waiting.LinedNonterminal c.in-Nonterminal.nonterminal)
    (symbol.Nonterminal c.in-Nonterminal.nonterminal) c.args.ahead c.args.place (events_of c.args.events.now.items) (events_of c.loop-next.events.items)
    (standing c.args.stack.now.items)
    (standing c.pop.new.self.items) refl refl refl c.in-Nonterminal.is (sym c.takes_line.ensures ∙ c.if-takes_line.false) here in
    let less = step.2 in
    rw (first) (omega (arith, less, past.nearer))

pub returns-in-None : goal.returns-in-None
returns-in-None c =
    let first = top c.loop-next.stack.items c.pop.new.self.items c.pop.result c.in-Some.next c.pop.ensures.items c.in-Some.is in
    let here = subst (λ ss. Leads c.args.ahead c.args.place (events_of c.args.events.now.items) (standing c.args.stack.now.items)
    (events_of c.loop-next.events.items) ss) first c.loop-next.invariant in
    let past = past_lines c.in-Some.next (waiting.Nonterminal c.in-Nonterminal.nonterminal) (waiting.LinedNonterminal c.in-Nonterminal.nonterminal)
    (symbol.Nonterminal c.in-Nonterminal.nonterminal) c.args.ahead c.args.place (events_of c.args.events.now.items) (events_of c.loop-next.events.items)
    (standing c.args.stack.now.items)
    (standing c.pop.new.self.items) refl refl refl c.in-Nonterminal.is (sym c.takes_line.ensures ∙ c.if-takes_line.false) here in
    stops_at c.args.ahead c.args.place (events_of c.args.events.now.items) (events_of c.loop-next.events.items) (standing c.args.stack.now.items)
    (standing c.pop.new.self.items) c.in-Nonterminal.nonterminal past.leads
    (sym c.predict.ensures ∙ c.in-None.is)

pub loop-next-preserved-in_ok-push_body-in-Some-predict : goal.loop-next-preserved-in_ok-push_body-in-Some-predict
loop-next-preserved-in_ok-push_body-in-Some-predict c =
    let kept = subst (λ s. IsStep s c.args.ahead c.args.place c.in-Nonterminal.nonterminal (events_of c.loop-next.events.items) (standing c.pop.new.self.items)
    (events_of c.known_step.new.events.items) (standing c.known_step.new.stack.items))
    c.in-Unknown.is c.in_ok-known_step-in-Nonterminal.ensures in
    let first = top c.loop-next.stack.items c.pop.new.self.items c.pop.result c.in-Some.next c.pop.ensures.items c.in-Some.is in
    let here = subst (λ ss. Leads c.args.ahead c.args.place (events_of c.args.events.now.items) (standing c.args.stack.now.items)
    (events_of c.loop-next.events.items) ss) first c.loop-next.invariant in
    let past = past_lines c.in-Some.next (waiting.Nonterminal c.in-Nonterminal.nonterminal) (waiting.LinedNonterminal c.in-Nonterminal.nonterminal)
    (symbol.Nonterminal c.in-Nonterminal.nonterminal) c.args.ahead c.args.place (events_of c.args.events.now.items) (events_of c.loop-next.events.items)
    (standing c.args.stack.now.items)
    (standing c.pop.new.self.items) refl refl refl c.in-Nonterminal.is (sym c.takes_line.ensures ∙ c.if-takes_line.false) here in
    let on_top = body_on_top c.push_body.new.stack.items c.known_step.new.stack.items c.in-Some-predict.production c.in_ok-push_body-in-Some-predict.ensures
    ∙ ap (λ ss. body_of c.in-Some-predict.production ++ ss) kept.1 in
    let led = goes_on_by c.args.ahead c.args.place (events_of c.args.events.now.items) (events_of c.loop-next.events.items) (standing c.args.stack.now.items)
    (standing c.pop.new.self.items) c.in-Nonterminal.nonterminal c.in-Some-predict.production past.leads
    (sym c.predict.ensures ∙ c.in-Some-predict.is) in
    rw (kept.0, on_top) led

pub loop-next-smaller-in_ok-push_body-in-Some-predict : goal.loop-next-smaller-in_ok-push_body-in-Some-predict
loop-next-smaller-in_ok-push_body-in-Some-predict c =
    let kept = subst (λ s. IsStep s c.args.ahead c.args.place c.in-Nonterminal.nonterminal (events_of c.loop-next.events.items) (standing c.pop.new.self.items)
    (events_of c.known_step.new.events.items) (standing c.known_step.new.stack.items))
    c.in-Unknown.is c.in_ok-known_step-in-Nonterminal.ensures in
    let first = top c.loop-next.stack.items c.pop.new.self.items c.pop.result c.in-Some.next c.pop.ensures.items c.in-Some.is in
    let here = subst (λ ss. Leads c.args.ahead c.args.place (events_of c.args.events.now.items) (standing c.args.stack.now.items)
    (events_of c.loop-next.events.items) ss) first c.loop-next.invariant in
    let past = past_lines c.in-Some.next (waiting.Nonterminal c.in-Nonterminal.nonterminal) (waiting.LinedNonterminal c.in-Nonterminal.nonterminal)
    (symbol.Nonterminal c.in-Nonterminal.nonterminal) c.args.ahead c.args.place (events_of c.args.events.now.items) (events_of c.loop-next.events.items)
    (standing c.args.stack.now.items)
    (standing c.pop.new.self.items) refl refl refl c.in-Nonterminal.is (sym c.takes_line.ensures ∙ c.if-takes_line.false) here in
    let on_top = body_on_top c.push_body.new.stack.items c.known_step.new.stack.items c.in-Some-predict.production c.in_ok-push_body-in-Some-predict.ensures
    ∙ ap (λ ss. body_of c.in-Some-predict.production ++ ss) kept.1 in
    let less = smaller c.args.ahead c.in-Nonterminal.nonterminal c.in-Some-predict.production (standing c.pop.new.self.items)
    (sym c.predict.ensures ∙ c.in-Some-predict.is) in
    rw (on_top, first) (omega (arith, less, past.nearer))

pub returns-in-Some-2 : goal.returns-in-Some-2
returns-in-Some-2 c =
    let first = top_is c.loop-next.stack.items c.pop.new.self.items c.pop.result c.in-Some.next _ c.pop.ensures.items c.in-Some.is c.in-AfterFactor.is in
    let here = subst (λ ss. Leads c.args.ahead c.args.place (events_of c.args.events.now.items) (standing c.args.stack.now.items)
    (events_of c.loop-next.events.items) ss) first c.loop-next.invariant in
    part_takes _ c.in-Some-2.expected c.args.ahead c.args.place (events_of c.args.events.now.items) (events_of c.loop-next.events.items)
    (events_of c.after_factor.new.events.items) (standing c.args.stack.now.items)
    (symbols_of waiting.AfterFactor) (standing c.pop.new.self.items) (standing c.after_factor.new.stack.items) c.in-Some-2.is
    c.in_ok-expected-in-AfterFactor.ensures here

pub loop-next-preserved-in-AfterFactor-1 : goal.loop-next-preserved-in-AfterFactor-1
loop-next-preserved-in-AfterFactor-1 c =
    let first = top_is c.loop-next.stack.items c.pop.new.self.items c.pop.result c.in-Some.next _ c.pop.ensures.items c.in-Some.is c.in-AfterFactor.is in
    let here = subst (λ ss. Leads c.args.ahead c.args.place (events_of c.args.events.now.items) (standing c.args.stack.now.items)
    (events_of c.loop-next.events.items) ss) first c.loop-next.invariant in
    part_goes _ c.args.ahead c.args.place (events_of c.args.events.now.items) (events_of c.loop-next.events.items) (events_of c.after_factor.new.events.items)
    (standing c.args.stack.now.items)
    (symbols_of waiting.AfterFactor) (standing c.pop.new.self.items) (standing c.after_factor.new.stack.items) c.in_default-2.not-Some
    c.in_ok-expected-in-AfterFactor.ensures here

pub returns-in-Some-3 : goal.returns-in-Some-3
returns-in-Some-3 c =
    let first = top_is c.loop-next.stack.items c.pop.new.self.items c.pop.result c.in-Some.next _ c.pop.ensures.items c.in-Some.is c.in-AfterTerm.is in
    let here = subst (λ ss. Leads c.args.ahead c.args.place (events_of c.args.events.now.items) (standing c.args.stack.now.items)
    (events_of c.loop-next.events.items) ss) first c.loop-next.invariant in
    part_takes _ c.in-Some-3.expected c.args.ahead c.args.place (events_of c.args.events.now.items) (events_of c.loop-next.events.items)
    (events_of c.after_term.new.events.items) (standing c.args.stack.now.items)
    (symbols_of waiting.AfterTerm) (standing c.pop.new.self.items) (standing c.after_term.new.stack.items) c.in-Some-3.is c.in_ok-expected-in-AfterTerm.ensures
    here

pub loop-next-preserved-in-AfterTerm-1 : goal.loop-next-preserved-in-AfterTerm-1
loop-next-preserved-in-AfterTerm-1 c =
    let first = top_is c.loop-next.stack.items c.pop.new.self.items c.pop.result c.in-Some.next _ c.pop.ensures.items c.in-Some.is c.in-AfterTerm.is in
    let here = subst (λ ss. Leads c.args.ahead c.args.place (events_of c.args.events.now.items) (standing c.args.stack.now.items)
    (events_of c.loop-next.events.items) ss) first c.loop-next.invariant in
    part_goes _ c.args.ahead c.args.place (events_of c.args.events.now.items) (events_of c.loop-next.events.items) (events_of c.after_term.new.events.items)
    (standing c.args.stack.now.items)
    (symbols_of waiting.AfterTerm) (standing c.pop.new.self.items) (standing c.after_term.new.stack.items) c.in_default-3.not-Some
    c.in_ok-expected-in-AfterTerm.ensures here

pub returns : goal.returns
returns c =
    let empty = no_top c.loop-next.stack.items _ c.pop.result (sym c.loop-next.stack.ok.0) c.pop.ensures.variant.1 c.in_default.not-Some in
    stops_empty c.args.ahead c.args.place (events_of c.args.events.now.items) (events_of c.loop-next.events.items) (standing c.args.stack.now.items)
    (subst (λ ss. Leads c.args.ahead c.args.place (events_of c.args.events.now.items) (standing c.args.stack.now.items) (events_of c.loop-next.events.items) ss)
    (ap standing empty) c.loop-next.invariant)
