-- Values of arrays are taken as the table takes them.
use Rattle.std.proofs.Common.{true, ◌≡◌, ℕ, ◌+◌, ◌<◌, ◌≤◌, List, [], ◌∷◌, ◌++◌, length, Option, Some, None, MatchOption, Result, Ok, Err, IfOk, refl, sym, ◌∙◌, ap, subst, get_or, arith}
use Rattle.frame_grammar.specs.declared.token_kind.TokenKind.{TokenKind}
use Rattle.frame_grammar.specs.declared.token_kind.TokenKind.TheVariants as kind
use Rattle.frame_grammar.specs.declared.symbols.Action.{Action}
use Rattle.frame_grammar.specs.declared.symbols.Action.TheVariants as action
use Rattle.frame_grammar.specs.declared.symbols.Event.{Event}
use Rattle.frame_grammar.specs.declared.symbols.Nonterminal.TheVariants.{MoreValues}
use Rattle.frame_grammar.specs.declared.symbols.Symbol.{Symbol}
use Rattle.frame_grammar.specs.declared.symbols.Symbol.TheVariants as symbol
use Rattle.frame_parser.specs.declared.values.Value.{Value}
use Rattle.frame_parser.specs.declared.values.Value.TheVariants.{Sign, Plain, Negative}
use Rattle.frame_grammar.specs.Bodies.{body_of}
use Rattle.grammar_table.specs.Table.{choices_of, default_of}
use Rattle.grammar_table.specs.Predict.{same_kind}
use Rattle.grammar_table.specs.Stack.{Between, Takes, Stops}
use Rattle.frame_parser.specs.Parser.{StopsFrom, TakesFrom}
use Rattle.grammar_table.specs.declared.stack_symbol.StackSymbol.{StackSymbol}
use Rattle.grammar_table.specs.declared.stack_symbol.StackSymbol.TheVariants as waiting
use Rattle.frame_parser.specs.Values.{rest_of, are_values, in_values, TakesValues}
use Rattle.known_lines.proofs.Takings.{taken_at_once}
use Rattle.grammar_table.proofs.Steps.{between_more, finds, fault_at}

-- the same in the words of whoever asks
pub part_taken : (value value0 next : Value) (k k0 : TokenKind) (place : ℕ) (done done1 done1' : List Event) → value ≡ value0 → k ≡ k0 → done1 ≡ done1' →
    ((ss : List Symbol) → Takes k0 place done (in_values value0 ss) done1' (in_values next ss)) → (ss : List Symbol)
    → Takes k place done (in_values value ss) done1 (in_values next ss)
part_taken value value0 next k k0 place done done1 done1' same_value same_kind same_events step ss =
    subst (λ v. Takes k place done (in_values v ss) done1 (in_values next ss)) (sym same_value)
    (subst (λ x. Takes x place done (in_values value0 ss) done1 (in_values next ss)) (sym same_kind)
    (subst (λ es. Takes k0 place done (in_values value0 ss) es (in_values next ss)) (sym same_events) (step ss)))

-- which of what waits more values are
pub values_wait : (top : Option StackSymbol) → are_values top ≡ true → top ≡ Some (waiting.Nonterminal MoreValues)
values_wait (Some (waiting.Nonterminal MoreValues)) e = refl
values_wait _ e = cc

-- the number behind a `-`
pub signed : (place : ℕ) (done : List Event) (ss : List Symbol) →
    Takes kind.Number place done (in_values Sign ss) (done ++ record { action = action.Number; place = place } ∷ []) (in_values Negative ss)
unfolding body_of choices_of default_of same_kind
signed place done ss = taken_at_once kind.Number place (in_values Sign ss) (record { events = _; stack = _ }) refl done

-- a number behind a value
pub number_next : (place : ℕ) (done : List Event) (ss : List Symbol) →
    Takes kind.Number place done (in_values Plain ss)
    (done ++ record { action = action.PlainNumber; place = place } ∷ record { action = action.Number; place = place } ∷ []) (in_values Plain ss)
unfolding body_of choices_of default_of same_kind
number_next place done ss = taken_at_once kind.Number place (in_values Plain ss) (record { events = _; stack = _ }) refl done

-- a `-` behind a value
pub sign_next : (place : ℕ) (done : List Event) (ss : List Symbol) →
    Takes kind.Minus place done (in_values Plain ss)
    (done ++ record { action = action.PlainNumber; place = place } ∷ record { action = action.Operator; place = place } ∷ []) (in_values Sign ss)
unfolding body_of choices_of default_of same_kind
sign_next place done ss = taken_at_once kind.Minus place (in_values Plain ss) (record { events = _; stack = _ }) refl done

pub number_after : (place : ℕ) (done : List Event) (ss : List Symbol) →
    Takes kind.Number place done (in_values Negative ss)
    (done ++ record { action = action.MinusNumber; place = place } ∷ record { action = action.Number; place = place } ∷ []) (in_values Plain ss)
unfolding body_of choices_of default_of same_kind
number_after place done ss = taken_at_once kind.Number place (in_values Negative ss) (record { events = _; stack = _ }) refl done

pub sign_after : (place : ℕ) (done : List Event) (ss : List Symbol) →
    Takes kind.Minus place done (in_values Negative ss)
    (done ++ record { action = action.MinusNumber; place = place } ∷ record { action = action.Operator; place = place } ∷ []) (in_values Sign ss)
unfolding body_of choices_of default_of same_kind
sign_after place done ss = taken_at_once kind.Minus place (in_values Negative ss) (record { events = _; stack = _ }) refl done

-- the same behind a value that is whole with an action
pub next_taken : {E : Type 0} (result : Result (Option Value) E) (value : Value) (a : Action) (k : TokenKind) (place : ℕ) (done done' : List Event)
    (stack rest : List Symbol) →
    rest_of value ≡ symbol.Action a ∷ [] → stack ≡ symbol.Nonterminal MoreValues ∷ rest →
    IfOk result (λ next. MatchOption next (done' ≡ done) (λ next. (ss : List Symbol) → Takes k place done (in_values value ss) done' (in_values next ss))) →
    IfOk result (λ next. MatchOption next (done' ≡ done)
    (λ next. (ss : List Symbol) × (stack ≡ symbol.Nonterminal MoreValues ∷ ss) × Takes k place done (symbol.Action a ∷ stack) done' (in_values next ss)))
next_taken (Ok None) value a k place done done' stack rest whole top h = h
next_taken (Ok (Some next)) value a k place done done' stack rest whole top h = (
  rest,
  top,
  subst (λ ss. Takes k place done (symbol.Action a ∷ ss) done' (in_values next rest)) (sym top)
      (subst (λ ss. Takes k place done (ss ++ symbol.Nonterminal MoreValues ∷ rest) done' (in_values next rest)) whole (h rest)),
)
next_taken (Err e) value a k place done done' stack rest whole top h = h

-- no value yet
pub no_values : (tokens : List TokenKind) (place : ℕ) (value : Value) (done : List Event) → place ≤ length tokens
    → TakesValues tokens place place value value done done
no_values tokens place value done within = record { on = omega arith; within = within; between = λ start ss at. at }

some_values : (value : Value) (ss : List Symbol) → in_values value ss ≡ [] → ⊥
some_values Sign ss e = cc
some_values Plain ss e = cc
some_values Negative ss e = cc

-- one more token
pub more_values : (tokens : List TokenKind) (from place : ℕ) (d k : TokenKind) (first value next : Value) (done0 done done' : List Event)
    → place < length tokens → get_or tokens place d ≡ k →
    TakesValues tokens from place first value done0 done → ((ss : List Symbol) → Takes k place done (in_values value ss) done' (in_values next ss)) →
    TakesValues tokens from (place + 1) first next done0 done'
more_values tokens from place d k first value next done0 done done' low kind before step = record {
  on = omega (arith, before.on);
  within = omega (arith, low);
  between = λ start ss at.
      between_more start tokens place d done done' (in_values value ss) (in_values next ss) low (before.between start ss at)
      (subst (λ x. Takes x place done (in_values value ss) done' (in_values next ss)) (sym kind) (step ss)) (some_values next ss);
}

-- a token that no sentence has there
pub stops_from : (tokens : List TokenKind) (place : ℕ) (d k : TokenKind) (done : List Event) (ss : List Symbol) → place < length tokens
    → get_or tokens place d ≡ k →
    Stops k place done ss → StopsFrom tokens place done ss
stops_from tokens place d k done ss low kind step start at = fault_at start tokens place d done ss low at (subst (λ x. Stops x place done ss) (sym kind) step)

-- a token that is taken by itself
pub token_from : (tokens : List TokenKind) (place : ℕ) (d k : TokenKind) (done done' : List Event) (ss ss' : List Symbol) → place < length tokens
    → get_or tokens place d ≡ k →
    Takes k place done ss done' ss' → TakesFrom tokens place (place + 1) done ss done' ss'
token_from tokens place d k done done' ss ss' low kind step =
    let here = subst (λ x. Takes x place done ss done' ss') (sym kind) step in
    record {
      on = omega arith;
      within = omega (arith, low);
      ended = λ start at empty. finds start tokens place d done done' ss ss' low at here empty;
      more = λ start at full. between_more start tokens place d done done' ss ss' low at here full;
    }

-- a token of a value, and those of the values after it
pub values_from : (tokens : List TokenKind) (place next : ℕ) (d k : TokenKind) (first last : Value) (done done1 done' : List Event)
    (ss stack stack' rest : List Symbol) →
    place < length tokens → get_or tokens place d ≡ k → stack ≡ symbol.Nonterminal MoreValues ∷ rest → Takes k place done ss done1 (in_values first rest) →
    TakesValues tokens (place + 1) next first last done1 done' → stack' ≡ rest_of last ++ stack → TakesFrom tokens place next done ss done' stack'
values_from tokens place next d k first last done done1 done' ss stack stack' rest low kind top step values put =
    let whole : stack' ≡ in_values last rest = put ∙ ap (λ xs. rest_of last ++ xs) top in
    record {
      on = omega (arith, values.on);
      within = values.within;
      ended = λ start at empty. absurd (some_values last rest (sym whole ∙ empty));
      more = λ start at full. subst (Between start tokens next done') (sym whole)
          (values.between start rest
          (between_more start tokens place d done done1 ss (in_values first rest) low at
          (subst (λ x. Takes x place done ss done1 (in_values first rest)) (sym kind) step) (some_values first rest)));
    }
