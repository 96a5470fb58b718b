-- Operands are taken as the table takes them.
use Rattle.std.proofs.Common.{◌≡◌, ℕ, ◌+◌, ◌<◌, ◌≤◌, List, [], ◌∷◌, ◌++◌, length, slice_get, get_or, Some, true, Result, Ok, Err, IfOk, refl, sym, subst, arith}
use Rattle.std.proofs.lemmas.List.{append-nil}
use Rattle.std.proofs.lemmas.Option.{slice_get_within, get_or_from_slice_get}
use Rattle.frame_grammar.specs.declared.token_kind.TokenKind.{TokenKind}
use Rattle.frame_grammar.specs.declared.token_kind.TokenKind.TheVariants as kind
use Rattle.frame_parser.specs.declared.operands.Expected.{Expected}
use Rattle.frame_parser.specs.declared.operands.Expected.TheVariants as expected
use Rattle.frame_parser.specs.declared.operands.Side.{Side}
use Rattle.frame_parser.specs.declared.operands.Side.TheVariants as side
use Rattle.frame_parser.specs.declared.operands.TheConstants.{INDEX, INDEX_ASSIGN, INDEX_NOTES}
use Rattle.frame_grammar.specs.declared.symbols.Action.{Action}
use Rattle.frame_grammar.specs.declared.symbols.Action.TheVariants as action
use Rattle.frame_grammar.specs.declared.symbols.Event.{Event}
use Rattle.frame_grammar.specs.declared.symbols.Nonterminal.{Nonterminal}
use Rattle.frame_grammar.specs.declared.symbols.Symbol.{Symbol}
use Rattle.frame_grammar.specs.declared.symbols.Symbol.TheVariants as symbol
use Rattle.grammar_table.specs.declared.stack_symbol.StackSymbol.TheVariants as waiting
use Rattle.frame_grammar.specs.Bodies.{body_of}
use Rattle.grammar_table.specs.Table.{choices_of, default_of}
use Rattle.grammar_table.specs.Predict.{same_kind}
use Rattle.known_lines.specs.Lines.{all_taken, events_at, AreAt}
use Rattle.frame_parser.specs.Operands.{to_come, behind_of}
use Rattle.grammar_table.specs.Stack.{Between, closes, Takes}
use Rattle.frame_parser.specs.Parser.{TakesFrom, TakesOn}
use Rattle.grammar_table.specs.StackSymbols.{symbols_of}
use Rattle.known_lines.proofs.Takings.{taken_at_once, all_between}
use Rattle.grammar_table.proofs.Steps.{between_more}

-- What a side begins with

pub name_of_side : (side : Side) (place : ℕ) (done : List Event) (ss : List Symbol) → Takes kind.Name place done (to_come (expected.Side side) ++ ss)
    (done ++ record { action = action.StartAtom; place = place } ∷ record { action = action.Name; place = place } ∷ [])
    (to_come expected.Place ++ behind_of side ++ ss)
unfolding body_of choices_of default_of same_kind
name_of_side side.Factor place done ss = taken_at_once kind.Name place (to_come (expected.Side side.Factor) ++ ss) (record { events = _; stack = _ }) refl done
name_of_side side.Term place done ss = taken_at_once kind.Name place (to_come (expected.Side side.Term) ++ ss) (record { events = _; stack = _ }) refl done
name_of_side side.Expression place done ss = taken_at_once kind.Name place (to_come (expected.Side side.Expression) ++ ss)
    (record { events = _; stack = _ }) refl done
name_of_side side.Value place done ss = taken_at_once kind.Name place (to_come (expected.Side side.Value) ++ ss) (record { events = _; stack = _ }) refl done

pub number_of_side : (side : Side) (place : ℕ) (done : List Event) (ss : List Symbol) → Takes kind.Number place done (to_come (expected.Side side) ++ ss)
    (done ++ record { action = action.Number; place = place } ∷ []) (symbols_of (waiting.LinedAction action.NumberAtom) ++ behind_of side ++ ss)
unfolding body_of choices_of default_of same_kind
number_of_side side.Factor place done ss = taken_at_once kind.Number place (to_come (expected.Side side.Factor) ++ ss)
    (record { events = _; stack = _ }) refl done
number_of_side side.Term place done ss = taken_at_once kind.Number place (to_come (expected.Side side.Term) ++ ss) (record { events = _; stack = _ }) refl done
number_of_side side.Expression place done ss = taken_at_once kind.Number place (to_come (expected.Side side.Expression) ++ ss)
    (record { events = _; stack = _ }) refl done
number_of_side side.Value place done ss =
    taken_at_once kind.Number place (to_come (expected.Side side.Value) ++ ss) (record { events = _; stack = _ }) refl done

pub index_of_side : (side : Side) (place : ℕ) (done : List Event) (ss : List Symbol) → Takes kind.Index place done (to_come (expected.Side side) ++ ss)
    (done ++ record { action = action.StartAtom; place = place } ∷ []) (symbols_of (waiting.LinedAction action.IndexAtom) ++ behind_of side ++ ss)
unfolding body_of choices_of default_of same_kind
index_of_side side.Factor place done ss =
    taken_at_once kind.Index place (to_come (expected.Side side.Factor) ++ ss) (record { events = _; stack = _ }) refl done
index_of_side side.Term place done ss = taken_at_once kind.Index place (to_come (expected.Side side.Term) ++ ss) (record { events = _; stack = _ }) refl done
index_of_side side.Expression place done ss = taken_at_once kind.Index place (to_come (expected.Side side.Expression) ++ ss)
    (record { events = _; stack = _ }) refl done
index_of_side side.Value place done ss = taken_at_once kind.Index place (to_come (expected.Side side.Value) ++ ss) (record { events = _; stack = _ }) refl done

-- What follows a name

pub index_taken : (place : ℕ) (ss : List Symbol) → all_taken INDEX 0 place (to_come expected.Place ++ ss)
    ≡ Some (record { events = events_at place INDEX_NOTES; stack = symbols_of (waiting.LinedAction action.PlaceAtom) ++ ss })
unfolding body_of choices_of default_of same_kind
index_taken place ss = refl

pub index_assign_taken : (place : ℕ) (ss : List Symbol) → all_taken INDEX_ASSIGN 0 place (to_come expected.Target ++ ss)
    ≡ Some (record { events = events_at place INDEX_NOTES; stack = to_come (expected.Side side.Expression) ++ symbol.Action action.SetPlace ∷ ss })
unfolding body_of choices_of default_of same_kind
index_assign_taken place ss = refl

pub assign_taken : (place : ℕ) (done : List Event) (ss : List Symbol) → Takes kind.Assign place done (to_come expected.Target ++ ss) done
    (to_come (expected.Side side.Value) ++ ss)
unfolding body_of choices_of default_of same_kind
assign_taken place done ss =
    subst (λ es. Takes kind.Assign place done (to_come expected.Target ++ ss) es (to_come (expected.Side side.Value) ++ ss)) (append-nil done)
    (taken_at_once kind.Assign place (to_come expected.Target ++ ss) (record { events = _; stack = _ }) refl done)

-- How they are put together

pub some_expected : (c : Expected) (ss : List Symbol) → to_come c ++ ss ≡ [] → ⊥
some_expected c ss e = cc

pub some_lined : (a : Action) (ss : List Symbol) → symbols_of (waiting.LinedAction a) ++ ss ≡ [] → ⊥
some_lined a ss e = cc

-- no token
pub none_on : (tokens : List TokenKind) (place : ℕ) (done : List Event) (ss ss' : List Symbol) → place ≤ length tokens → ss' ≡ ss
    → TakesOn tokens place place done ss done ss'
none_on tokens place done ss ss' within same = record {
  on = omega arith;
  within = within;
  between = λ start at. subst (Between start tokens place done) (sym same) at;
}

-- one token
pub one_on : (tokens : List TokenKind) (place : ℕ) (k : TokenKind) (done done' : List Event) (ss ss' : List Symbol) → slice_get tokens place ≡ Some k
    → Takes k place done ss done' ss' → (ss' ≡ [] → ⊥) →
    TakesOn tokens place (place + 1) done ss done' ss'
one_on tokens place k done done' ss ss' there step some =
    let within = slice_get_within tokens place k there in
    let kind = get_or_from_slice_get tokens place k k there in
    record {
      on = omega arith;
      within = omega (arith, within);
      between = λ start at. between_more start tokens place k done done' ss ss' within at (subst (λ x. Takes x place done ss done' ss') (sym kind) step) some;
    }

-- the same in the words of whoever asks
pub told_on : (tokens : List TokenKind) (place next : ℕ) (done done' : List Event) (ss ss1 ss1' : List Symbol) → ss1 ≡ ss1'
    → TakesOn tokens place next done ss done' ss1' → TakesOn tokens place next done ss done' ss1
told_on tokens place next done done' ss ss1 ss1' same on = subst (TakesOn tokens place next done ss done') (sym same) on

pub told_events : (tokens : List TokenKind) (place next : ℕ) (done done1 done1' : List Event) (ss ss' : List Symbol) → done1 ≡ done1'
    → TakesOn tokens place next done ss done1' ss' → TakesOn tokens place next done ss done1 ss'
told_events tokens place next done done1 done1' ss ss' same on = subst (λ es. TakesOn tokens place next done ss es ss') (sym same) on

-- what is to come was begun with, and goes on
pub then_ok : {E : Type 0} (result : Result ℕ E) (tokens : List TokenKind) (a b : ℕ) (done1 done2 done3 : List Event) (ss1 ss2 ss3 : List Symbol)
    → TakesOn tokens a b done1 ss1 done2 ss2 →
    IfOk result (λ c. TakesOn tokens b c done2 ss2 done3 ss3) → IfOk result (λ c. TakesOn tokens a c done1 ss1 done3 ss3)
then_ok (Ok c) tokens a b done1 done2 done3 ss1 ss2 ss3 first then = record {
  on = omega (arith, first.on, then.on);
  within = then.within;
  between = λ start at. then.between start (first.between start at);
}
then_ok (Err e) tokens a b done1 done2 done3 ss1 ss2 ss3 first then = then

-- tokens of these kinds
pub all_on : (tokens kinds : List TokenKind) (notes : List (Action × ℕ)) (place : ℕ) (done done' : List Event) (ss ss' : List Symbol) →
    all_taken kinds 0 place ss ≡ Some (record { events = events_at place notes; stack = ss' }) → AreAt kinds tokens place → place + length kinds ≤ length tokens
    → done' ≡ done ++ events_at place notes →
    TakesOn tokens place (place + length kinds) done ss done' ss'
all_on tokens kinds notes place done done' ss ss' derived there room noted =
    let none : place ≡ place + 0 = omega arith in
    record {
      on = omega arith;
      within = room;
      between = λ start at.
          subst (λ es. Between start tokens (place + length kinds) es ss') (sym noted)
          (subst (λ p. Between start tokens (p + length kinds) (done ++ events_at place notes) ss') (sym none)
          (all_between start tokens kinds 0 place done ss _ derived (subst (λ p. AreAt kinds tokens p) none there)
          (subst (λ p. Between start tokens p done ss) none at)));
    }

-- a token, and what was to come behind it
pub expected_from : (tokens : List TokenKind) (place next : ℕ) (d k : TokenKind) (c : Expected) (done done1 done' : List Event) (ss stack stack' : List Symbol)
    → place < length tokens → get_or tokens place d ≡ k →
    Takes k place done ss done1 (to_come c ++ stack) → TakesOn tokens (place + 1) next done1 (to_come c ++ stack) done' stack'
    → TakesFrom tokens place next done ss done' stack'
expected_from tokens place next d k c done done1 done' ss stack stack' low kind step on = record {
  on = omega (arith, on.on);
  within = on.within;
  ended = λ start at empty.
      let closed : closes [] ≡ true = subst (λ xs. closes xs ≡ true) empty (more start at).closed in
      cc;
  more = λ start at full. more start at;
}
  where
    more : (start : Nonterminal) → Between start tokens place done ss → Between start tokens next done' stack'
    more start at =
        on.between start
        (between_more start tokens place d done done1 ss (to_come c ++ stack) low at
        (subst (λ x. Takes x place done ss done1 (to_come c ++ stack)) (sym kind) step) (some_expected c stack))
